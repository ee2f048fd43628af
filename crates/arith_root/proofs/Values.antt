-- Worked values: the root of 2, and that of the smallest positive f64. Assumes nothing.
use mathlib.Core.Path.{◌≡◌, refl}
use mathlib.Core.Bool.{true, false}
use lib.IntN.{pos, negsuc}
use lib.Ieee.{nan, fin, binary64, of_bits}
use Rattle.arith_root.specs.Root.{root}

of_two : root (fin false 1 (pos 1)) ≡ of_bits binary64 0x3ff6a09e667f3bcd
unfolding root of_bits
of_two = refl

of-least : root (fin false 1 (negsuc 1073)) ≡ of_bits binary64 0x1e60000000000000
unfolding root of_bits
of-least = refl

of-largest : root (of_bits binary64 0x7fefffffffffffff) ≡ of_bits binary64 0x5fefffffffffffff
unfolding root of_bits
of-largest = refl

of-minus-zero : root (of_bits binary64 0x8000000000000000) ≡ of_bits binary64 0x8000000000000000
unfolding root of_bits
of-minus-zero = refl

of-minus-two : root (fin true 1 (pos 1)) ≡ nan
unfolding root
of-minus-two = refl
