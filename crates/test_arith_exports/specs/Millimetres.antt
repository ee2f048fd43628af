-- The exported millimetres. Definitions only.
use Rattle.std.specs.Prelude.{Bool, true, false, cond, ℤ, pos, Float}
use Rattle.lines_millimetres.specs.Nearest as Nearest
use Rattle.lines_millimetres.specs.declared.Rounding.{Rounding}
use Rattle.lines_millimetres.specs.declared.Rounding.TheVariants.{AwayFromZero, ToEven}

-- where halves go: to the even neighbour, or away from zero
unfoldable pub rounding_of : Bool → Rounding
rounding_of true = ToEven
rounding_of false = AwayFromZero

-- x metres in whole millimetres; 0 where x is 2 ^ 53 metres or more in size, or no number
unfoldable pub sheet_number : Float → Bool → ℤ
sheet_number x even = cond (Nearest.under2^53 x) (Nearest.millimetres (rounding_of even) x) (pos 0)
