-- Metres in whole millimetres: "The exact value of the float times 1,000 goes to the nearest whole number", an exact half by a choice of `Rounding`.
-- `NearestMm` says it with no digits in it, and holds of one whole number for every float (`OnlyNearest`, in the contract of `millimetres`);
-- `millimetres` computes that number, for definitions that go on from it. Definitions only.
-- `Picked`, `NearestWhole`: the whole number nearest to a fraction. `numerator`, `denominator`: 1,000 x as a fraction. `NearestMm`: x in millimetres.
-- `half_of`, `settled`, `whole`, `millimetres`: the same by quotient and remainder. `with_sign`: a number or its opposite.
-- `2^53`, `under2^53`: the floats whose millimetres fit 64 bits. `word64`, `same_number`: signed numbers as words, and compared.
use Rattle.std.specs.Prelude.{ℕ, suc, ◌+◌, ◌-◌, ◌*◌, ◌/◌, ◌%◌, ◌^◌, ◌≤◌, ◌≡◌, Bool, false, cond, ltb, eqb, ℤ, pos, negsuc, neg_ℤ, nat_abs, ◌-ℤ◌, ◌*ℤ◌, Float}
use Rattle.std.specs.Float.{nan, inf, fin}
use Rattle.std.specs.Float.Ieee.{up, down}
use Rattle.arith.specs.F64.{◌≺◌, float, abs}
use Rattle.lines_millimetres.specs.declared.Rounding.{Rounding}
use Rattle.lines_millimetres.specs.declared.Rounding.TheVariants.{AwayFromZero, ToEven}

-- of the two whole numbers that a / d lies halfway between, k is the one picked: "halves away from zero", no smaller in size than a / d; or the even one
unfoldable pub Picked : Rounding → ℤ → ℕ → ℤ → Type 0
Picked AwayFromZero a d k = nat_abs a ≤ nat_abs k * d
Picked ToEven a d k = nat_abs k % 2 ≡ 0

-- k is "the nearest whole number" to a / d: 2 |a / d - k| is at most 1, and where it is 1 the choice decides. Both sides are times d.
pub record NearestWhole (choice : Rounding) (a : ℤ) (d : ℕ) (k : ℤ) : Type 0 where
  pub distance : 2 * nat_abs (a -ℤ k *ℤ pos d) ≤ d
  pub half : 2 * nat_abs (a -ℤ k *ℤ pos d) ≡ d → Picked choice a d k

-- n, or its opposite
abbrev pub with_sign : Bool → ℕ → ℤ
with_sign minus n = cond minus (neg_ℤ (pos n)) (pos n)

-- "The exact value of the float times 1,000" is numerator x / denominator x: a finite x is ±m * 2 ^ e, and 2 ^ e is up e / down e.
-- What is not finite counts as 0.
unfoldable pub numerator : Float → ℤ
numerator nan = pos 0
numerator (inf s) = pos 0
numerator (fin s m e) = with_sign s (1000 * (m * up e))

-- what the numerator is divided by
unfoldable pub denominator : Float → ℕ
denominator nan = 1
denominator (inf s) = 1
denominator (fin s m e) = down e

-- k is x metres in whole millimetres
abbrev pub NearestMm : Rounding → Float → ℤ → Type 0
NearestMm choice x k = NearestWhole choice (numerator x) (denominator x) k

-- ---- the same, computed

-- where a half above q goes: to the number after q, or to the even one of the two
unfoldable pub half_of : Rounding → ℕ → ℕ
half_of AwayFromZero q = q + 1
half_of ToEven q = q + q % 2

-- q + r / d to the nearest whole number, for an r below d
unfoldable pub settled : Rounding → ℕ → ℕ → ℕ → ℕ
settled choice q r d = cond (ltb (2 * r) d) q (cond (ltb d (2 * r)) (q + 1) (half_of choice q))

-- n / d to the nearest whole number
unfoldable pub whole : Rounding → ℕ → ℕ → ℕ
whole choice n d = settled choice (n / d) (n % d) d

-- x metres in whole millimetres
unfoldable pub millimetres : Rounding → Float → ℤ
millimetres choice nan = pos 0
millimetres choice (inf s) = pos 0
millimetres choice (fin s m e) = with_sign s (whole choice (1000 * (m * up e)) (down e))

-- ---- as a signed number of 64 bits

-- 2 ^ 53, by its bits
abbrev pub 2^53 : Float
2^53 = float 0x4340000000000000

-- x is below 2 ^ 53 metres in size, so that its millimetres fit a signed number of 64 bits
unfoldable pub under2^53 : Float → Bool
under2^53 x = abs x ≺ 2^53

-- "signed 64-bit millimetres" as a word of the answer: two's complement
unfoldable pub word64 : ℤ → ℕ
word64 (pos n) = n
word64 (negsuc n) = 2 ^ 64 - suc n

-- two whole numbers that are equal
unfoldable pub same_number : ℤ → ℤ → Bool
same_number (pos a) (pos b) = eqb a b
same_number (pos a) (negsuc b) = false
same_number (negsuc a) (pos b) = false
same_number (negsuc a) (negsuc b) = eqb a b
