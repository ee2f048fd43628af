use Prim.Native.Nat.{ℕ, ◌<◌}
use mathlib.Core.Path.{◌≡◌}
use mathlib.Core.Bool.{Bool, true}

-- the same without counting rounds: n cells are connected exactly where each of them is reachable (proofs/Enough.antt)
pub data Reachable (touch : ℕ → ℕ → Bool) (n : ℕ) : ℕ → Type 0 where
  begin : Reachable touch n 0
  step : {i j : ℕ} → i < n → j < n → Reachable touch n i → touch i j ≡ true → Reachable touch n j
