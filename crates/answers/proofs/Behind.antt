use Prim.Native.Nat.{ℕ, ◌+◌, ◌≤◌}
use mathlib.Core.Path.{◌≡◌}
use mathlib.Core.List.{List}
use lib.ListN.{length, take, drop}
use Rattle.reading.specs.Result.{Refusable}
use Rattle.std.specs.Prelude.{Ok}

-- the words of the reply stand behind the place of its header, if they have room there
pub record Behind (reply : Refusable (List ℕ)) (o : List ℕ) (at : ℕ) : Type 0 where
  pub words : (ws : List ℕ) → reply ≡ Ok ws → at + 2 + length ws ≤ length o → take (length ws) (drop (at + 2) o) ≡ ws
