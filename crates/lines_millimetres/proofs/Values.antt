-- Worked values of `millimetres`, by computing. Assumes nothing.
use mathlib.Core.Path.{◌≡◌, refl}
use lib.IntN.{pos, negsuc}
use lib.Ieee.{of_bits}
use Rattle.arith.specs.F64.{float}
use Rattle.lines_millimetres.specs.Nearest.{millimetres, whole, settled, half_of}
use Rattle.lines_millimetres.specs.declared.Rounding.TheVariants.{AwayFromZero, ToEven}

-- 62.5 mm
half-away : millimetres AwayFromZero (float 0x3fb0000000000000) ≡ pos 63
unfolding millimetres whole settled half_of of_bits
half-away = refl

half-even : millimetres ToEven (float 0x3fb0000000000000) ≡ pos 62
unfolding millimetres whole settled half_of of_bits
half-even = refl

-- -62.5 mm: -63, or the even -62
minus-half-away : millimetres AwayFromZero (float 0xbfb0000000000000) ≡ negsuc 62
unfolding millimetres whole settled half_of of_bits
minus-half-away = refl

minus-half-even : millimetres ToEven (float 0xbfb0000000000000) ≡ negsuc 61
unfolding millimetres whole settled half_of of_bits
minus-half-even = refl

-- 187.5 mm and -187.5 mm: 188 is the even one
odd-half-even : millimetres ToEven (float 0x3fc8000000000000) ≡ pos 188
unfolding millimetres whole settled half_of of_bits
odd-half-even = refl

minus-odd-half-even : millimetres ToEven (float 0xbfc8000000000000) ≡ negsuc 187
unfolding millimetres whole settled half_of of_bits
minus-odd-half-even = refl

-- the float below 62.5 mm, and the one above
below_half : millimetres AwayFromZero (float 0x3fafffffffffffff) ≡ pos 62
unfolding millimetres whole settled half_of of_bits
below_half = refl

above_half : millimetres ToEven (float 0x3fb0000000000001) ≡ pos 63
unfolding millimetres whole settled half_of of_bits
above_half = refl

-- the floats beside -62.5 mm
minus-below-half : millimetres AwayFromZero (float 0xbfafffffffffffff) ≡ negsuc 61
unfolding millimetres whole settled half_of of_bits
minus-below-half = refl

minus-above-half : millimetres ToEven (float 0xbfb0000000000001) ≡ negsuc 62
unfolding millimetres whole settled half_of of_bits
minus-above-half = refl

-- the float 0.0005 is a little above half a millimetre; its product with 1000.0, rounded, is 0.5, of which 0 is the even neighbour
product-half : millimetres ToEven (float 0x3f40624dd2f1a9fc) ≡ pos 1
unfolding millimetres whole settled half_of of_bits
product-half = refl

-- -0, and the largest subnormal with either sign
minus-zero : millimetres AwayFromZero (float 0x8000000000000000) ≡ pos 0
unfolding millimetres whole settled half_of of_bits
minus-zero = refl

subnormal : millimetres AwayFromZero (float 0x000fffffffffffff) ≡ pos 0
unfolding millimetres whole settled half_of of_bits
subnormal = refl

minus-subnormal : millimetres AwayFromZero (float 0x800fffffffffffff) ≡ pos 0
unfolding millimetres whole settled half_of of_bits
minus-subnormal = refl

-- 1,048,576 metres, the largest coordinate
largest-coordinate : millimetres AwayFromZero (float 0x4130000000000000) ≡ pos 1048576000
unfolding millimetres whole settled half_of of_bits
largest-coordinate = refl

-- the largest float below 2 ^ 53: (2 ^ 53 - 1) * 1,000 fits 63 bits
largest : millimetres AwayFromZero (float 0x433fffffffffffff) ≡ pos 9007199254740991000
unfolding millimetres whole settled half_of of_bits
largest = refl

-- infinity is not finite, and counts as 0
infinite : millimetres AwayFromZero (float 0x7ff0000000000000) ≡ pos 0
unfolding millimetres whole settled half_of of_bits
infinite = refl
