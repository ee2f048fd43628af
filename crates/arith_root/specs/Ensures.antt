-- The contracts of the helpers of `sqrt`. Definitions only.
-- `units_of`: the size of a float, by its bits. `unpack`: `UnpackExit`.
use Rattle.std.specs.Prelude.{◌≡◌, ℕ, ◌+◌, ◌-◌, ◌*◌, ◌/◌, ◌%◌, ◌^◌, ◌≤◌, ◌<◌, cond, eqb}

-- The size, in units of 2 ^ -1074, of the f64 with the bit pattern b, for a b below the infinity's.
unfoldable pub units_of : ℕ → ℕ
units_of b = cond (eqb (b / 2 ^ 52) 0) b ((2 ^ 52 + b % 2 ^ 52) * 2 ^ (b / 2 ^ 52 - 1))

-- That size is a * 2 ^ (h - 1024), where a has 53 binary digits.
pub record UnpackExit (b a h : ℕ) : Type 0 where
  pub low : 2 ^ 52 ≤ a
  pub high : a < 2 ^ 53
  pub from : 972 ≤ h
  pub to : h ≤ 3069
  pub same : units_of b * 2 ^ 1024 ≡ a * 2 ^ h
