-- The contract of `millimetres`. Definitions only.
use Rattle.std.specs.Prelude.{◌≡◌, ℤ, Float}
use Rattle.lines_millimetres.specs.Nearest.{NearestMm}
use Rattle.lines_millimetres.specs.declared.Rounding.{Rounding}

-- k is x metres in whole millimetres, and no other whole number is
pub record OnlyNearest (choice : Rounding) (x : Float) (k : ℤ) : Type 0 where
  pub nearest : NearestMm choice x k
  pub only : (j : ℤ) → NearestMm choice x j → j ≡ k
