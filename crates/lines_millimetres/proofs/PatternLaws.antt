-- A float below 2 ^ 53 in size by its bit pattern, times a factor. Assumes nothing.
use mathlib.Core.Path.{◌≡◌, refl, sym, ap, ◌∙◌, subst}
use Prim.Native.Nat.{ℕ, zero, suc, ◌+◌, ◌-◌, ◌*◌, ◌/◌, ◌%◌, ◌^◌, ◌≤◌, ◌<◌}
use native.Mathlib.Nat.{mul-one, one-mul, mul_assoc, mul_comm, mul-le-mul, mul-le-mul_left, mul-le-mul_right, mul-lt-mul_of_pos_left, mul-lt-mul_of_pos_right, mod-eq_of_lt, le_of_eq, lt_of_le_of_lt, lt_of_lt_of_le, lt_irrefl, lt_of_not-le}
use native.Mathlib.Omega.{arith}
use mathlib.Core.Bool.{Bool, true, false, cond, not, true≢false, false≢true}
use lib.Dec.{T, eqb, lit<, lit≤}
use lib.IntN.{ℤ, pos, neg_ℤ, ◌-ℤ◌, +ℤ_idl}
use lib.Signed as Signed
use lib.Pow.{pow-add, pow_pos, pow_mono, pow-lt}
use lib.Ieee.{Float, nan, inf, fin, binary64, up, down, lt, odd, fits, is_nan, of_fields, of_bits, to_bits}
use lib.Ieee.Digits.{Equals, odd_val}
use lib.Ieee.Fits.{down_pos}
use lib.Ieee.Bits.{of_bits-to_bits, to_bits-lt}
use mir.Syntax.{w64}
use mir.Val.{SFits, to_z, of_z}
use mir.ValLaws.{to_z_pos, to_z-of_z}
use borrow.Author.Tests.{ltb-true, lt-leb, eq-eqb, ne_eqb}
use Rattle.arith.specs.F64.{abs, signed}
use Rattle.arith.proofs.Floats.{holds}
use Rattle.arith_root.specs.Root.{plus}
use Rattle.arith_root.specs.Ensures.{units_of}
use Rattle.arith_root.proofs.Cases.{plus-top}
use Rattle.lines_millimetres.specs.Nearest.{with_sign, whole, millimetres, under2^53}
use Rattle.lines_millimetres.specs.declared.Rounding.{Rounding}
use Rattle.lines_millimetres.proofs.WholeLaws.{whole_same, whole-small}

-- ---- a pattern of a small exponent, and of any other: the size in units of 2 ^ -1074

units-low : (b : ℕ) → b / 2 ^ 52 < 1012 → units_of b < 2 ^ 1063
unfolding units_of
units-low b h = go (b / 2 ^ 52) refl
  where
    go : (e : ℕ) → b / 2 ^ 52 ≡ e → cond (eqb (b / 2 ^ 52) 0) b ((2 ^ 52 + b % 2 ^ 52) * 2 ^ (b / 2 ^ 52 - 1)) < 2 ^ 1063
    go zero e = rw (eq-eqb (b / 2 ^ 52) 0 e) (lt_of_lt_of_le {m = 2 ^ 52} (omega arith) (lit≤ tt))
    go (suc k) e =
        let l : 2 ^ 52 + b % 2 ^ 52 < 2 ^ 53 = omega arith in
        rw (ne_eqb (b / 2 ^ 52) 0 (λ z. omega arith))
        (lt_of_lt_of_le (mul-lt-mul_of_pos_right l (pow_pos (b / 2 ^ 52 - 1))) (mul-le-mul_left (2 ^ 53) (pow_mono {i = b / 2 ^ 52 - 1} {j = 1010} (omega arith))))

units-is : (b k : ℕ) → k < b / 2 ^ 52 → units_of b ≡ (2 ^ 52 + b % 2 ^ 52) * 2 ^ (b / 2 ^ 52 - 1)
unfolding units_of
units-is b k h = rw (ne_eqb (b / 2 ^ 52) 0 (λ z. omega arith))

moved : (f a s w : ℕ) → f * a * (s * w) ≡ f * (a * s) * w
moved f a s w = simp mul_assoc

module _ (c : Rounding) (b f : ℕ) (few : f ≤ 1000) where
  pub small_is : b / 2 ^ 52 < 1012 → 0 ≡ whole c (f * units_of b) (2 ^ 1074)
  small_is h =
      let g = mul-le-mul_right (units_of b) few in
      let l : 2 * (f * units_of b) ≤ 2048 * units_of b = omega arith in
      sym (whole-small c (f * units_of b) (2 ^ 1074) (lt_of_le_of_lt l (mul-lt-mul_of_pos_left {k = 2048} (units-low b h) (lit< tt))))

  abbrev pub num : ℕ
  num = f * (2 ^ 52 + b % 2 ^ 52)

  pub num-lt : num < 2 ^ 63
  num-lt = let g = mul-le-mul_right (2 ^ 52 + b % 2 ^ 52) few in omega arith

  abbrev pub den : ℕ
  den = (1 * 2 ^ (1075 - b / 2 ^ 52)) % 2 ^ 64

  module _ (from : 1012 ≤ b / 2 ^ 52) where
    den-is : den ≡ 2 ^ (1075 - b / 2 ^ 52)
    den-is = ap (λ (x : ℕ). x % 2 ^ 64) (one-mul (2 ^ (1075 - b / 2 ^ 52))) ∙ mod-eq_of_lt (pow-lt {i = 1075 - b / 2 ^ 52} {j = 64} (omega arith))

    pub den_pos : 0 < den
    den_pos = rw den-is (pow_pos (1075 - b / 2 ^ 52))

    pub large_is : b < 0x4340_0000_0000_0000 → whole c num den ≡ whole c (f * units_of b) (2 ^ 1074)
    large_is to =
        let u = units-is b 0 (omega arith) in
        let s : 1074 ≡ (b / 2 ^ 52 - 1) + (1075 - b / 2 ^ 52) = omega arith in
        let p : 2 ^ 1074 ≡ 2 ^ (b / 2 ^ 52 - 1) * 2 ^ (1075 - b / 2 ^ 52) = ap (λ (x : ℕ). 2 ^ x) s ∙ pow-add 2 (b / 2 ^ 52 - 1) (1075 - b / 2 ^ 52) in
        whole_same c num den (f * units_of b) (2 ^ 1074) den_pos (pow_pos 1074)
        (ap (λ (x : ℕ). num * x) p ∙ moved f (2 ^ 52 + b % 2 ^ 52) (2 ^ (b / 2 ^ 52 - 1)) (2 ^ (1075 - b / 2 ^ 52)) ∙ rw (u, den-is))

-- ---- what a pattern is the size of

value-fields : (b e : ℕ) → b / 2 ^ 52 ≡ e → e < 2047 → Equals (of_fields binary64 false e (b % 2 ^ 52)) (units_of b) (2 ^ 1074)
unfolding of_fields units_of
value-fields b zero h l =
    let g : b % 2 ^ 52 ≡ b = omega arith in
    rw (eq-eqb (b / 2 ^ 52) 0 h)
    (subst (λ (n : ℕ). Equals (odd 53 false (b % 2 ^ 52) 0 1074) n (2 ^ 1074)) (mul-one (b % 2 ^ 52) ∙ g) (odd_val 53 false (b % 2 ^ 52) 0 1074))
value-fields b (suc e) h l =
    let g : e ≡ b / 2 ^ 52 - 1 = omega arith in
    rw (ne_eqb (suc e) 2047 (λ z. omega arith), ne_eqb (b / 2 ^ 52) 0 (λ z. omega arith))
    (subst (λ (n : ℕ). Equals (odd 53 false (2 ^ 52 + b % 2 ^ 52) e 1074) ((2 ^ 52 + b % 2 ^ 52) * 2 ^ n) (2 ^ 1074)) g (odd_val 53 false (2 ^ 52 + b % 2 ^ 52) e 1074))

value-bits : (b : ℕ) → b < 0x7ff0_0000_0000_0000 → Equals (of_bits binary64 b) (units_of b) (2 ^ 1074)
unfolding of_bits
value-bits b h =
    let f : b % 2 ^ 63 / 2 ^ 52 ≡ b / 2 ^ 52 = omega arith in
    rw (lt-leb (2 ^ 63) b (omega arith), f) (value-fields b (b / 2 ^ 52) refl (omega arith))

units-high : (b : ℕ) → 0x4340_0000_0000_0000 ≤ b → 2 ^ 1127 ≤ units_of b
units-high b h =
    rw (units-is b 0 (omega arith))
    (mul-le-mul {n₁ = 2 ^ 52} {m₁ = 2 ^ 1075} {n₂ = 2 ^ 52 + b % 2 ^ 52} {m₂ = 2 ^ (b / 2 ^ 52 - 1)} (omega arith) (pow_mono {i = 1075} {j = b / 2 ^ 52 - 1} (omega arith)))

-- ---- |x| for a float below 2 ^ 53 in size

module _ (m : ℕ) (e : ℤ) (F : T (fits binary64 (fin false m e))) where
  abbrev pattern : ℕ
  pattern = to_bits binary64 (fin false m e)

  reads : of_bits binary64 pattern ≡ fin false m e
  reads = of_bits-to_bits binary64 (fin false m e) F

  in-range : pattern < 0x7ff0_0000_0000_0000
  in-range = lt_of_not-le (λ (g : 0x7ff0_0000_0000_0000 ≤ pattern).
      true≢false (ap plus (sym reads) ∙ plus-top pattern g (to_bits-lt binary64 (fin false m e) F)))

  value : m * up e * 2 ^ 1074 ≡ units_of pattern * down e
  value = subst (λ (y : Float). Equals y (units_of pattern) (2 ^ 1074)) reads (value-bits pattern in-range)

  pattern_lt : m * up e < 2 ^ 53 * down e → pattern < 0x4340_0000_0000_0000
  pattern_lt h = lt_of_not-le (λ (g : 0x4340_0000_0000_0000 ≤ pattern).
      lt_irrefl (2 ^ 1127 * down e)
      (lt_of_le_of_lt (mul-le-mul_right (down e) (units-high pattern g))
      (lt_of_le_of_lt (le_of_eq (sym value)) (lt_of_lt_of_le (mul-lt-mul_of_pos_right h (pow_pos 1074)) (le_of_eq (swapped (down e)))))))
    where
      swapped : (d : ℕ) → 2 ^ 53 * d * 2 ^ 1074 ≡ 2 ^ 1127 * d
      swapped d = mul_assoc (2 ^ 53) d (2 ^ 1074) ∙ ap (λ (n : ℕ). 2 ^ 53 * n) (mul_comm d (2 ^ 1074)) ∙ sym (mul_assoc (2 ^ 53) (2 ^ 1074) d)

  same-value : (c : Rounding) → whole c (1000 * units_of pattern) (2 ^ 1074) ≡ whole c (1000 * (m * up e)) (down e)
  same-value c =
      whole_same c (1000 * units_of pattern) (2 ^ 1074) (1000 * (m * up e)) (down e) (pow_pos 1074) (down_pos e)
      (mul_assoc 1000 (units_of pattern) (down e) ∙ ap (λ (n : ℕ). 1000 * n) (sym value) ∙ sym (mul_assoc 1000 (m * up e) (2 ^ 1074)))

-- ---- a float x below 2 ^ 53 in size, and the pattern of |x|

pub size_number : (x : Float) → under2^53 x ≡ true → T (not (is_nan (abs x)))
unfolding under2^53 abs lt is_nan
size_number nan h = absurd (false≢true h)
size_number (inf s) h = tt
size_number (fin s m e) h = tt

size-pattern : (x : Float) → T (fits binary64 (abs x)) → under2^53 x ≡ true → to_bits binary64 (abs x) < 0x4340_0000_0000_0000
unfolding under2^53 abs lt of_bits
size-pattern nan f h = absurd (false≢true h)
size-pattern (inf s) f h = absurd (false≢true h)
size-pattern (fin s m e) f h = pattern_lt m e f (let l = ltb-true (m * up e * 1) (2 ^ 53 * down e) h in omega arith)

size-whole : (c : Rounding) (x : Float) → T (fits binary64 (abs x)) → under2^53 x ≡ true →
    with_sign (signed x) (whole c (1000 * units_of (to_bits binary64 (abs x))) (2 ^ 1074)) ≡ millimetres c x
unfolding under2^53 abs lt signed millimetres of_bits
size-whole c nan f h = absurd (false≢true h)
size-whole c (inf s) f h = absurd (false≢true h)
size-whole c (fin s m e) f h = rw (same-value m e f c)

-- ---- signed numbers of 64 bits

neg_small : (k : ℕ) → k < 2 ^ 63 → Signed.mag (neg_ℤ (pos k)) < 2 ^ 63
neg_small zero h = h
neg_small (suc k) h = omega arith

module _ (k : ℕ) (h : k < 2 ^ 63) where
  minus_is : pos 0 -ℤ to_z w64 k ≡ neg_ℤ (pos k)
  minus_is = ap (λ (z : ℤ). pos 0 -ℤ z) (to_z_pos w64 k h) ∙ +ℤ_idl (neg_ℤ (pos k))

  pub minus-fits : SFits w64 (pos 0 -ℤ to_z w64 k)
  minus-fits = rw minus_is (record { sfits = neg_small k h })

  minus-back : to_z w64 (of_z w64 (pos 0 -ℤ to_z w64 k)) ≡ neg_ℤ (pos k)
  minus-back = to_z-of_z w64 (pos 0 -ℤ to_z w64 k) minus-fits ∙ minus_is

-- ---- the answers of `millimetres`: y is |x|, and k is 1,000 y to the nearest whole number

module _ (c : Rounding) (x y : Float) (e : y ≡ abs x) (f : fits binary64 y ≡ true) (h : under2^53 x ≡ true) where
  sized : T (fits binary64 (abs x))
  sized = holds (rw e at f)

  pub pattern-small : to_bits binary64 y < 0x4340_0000_0000_0000
  pattern-small = rw e (size-pattern x sized h)

  signed_is : (minus : Bool) (k : ℕ) → signed x ≡ minus → k ≡ whole c (1000 * units_of (to_bits binary64 y)) (2 ^ 1074) → with_sign minus k ≡ millimetres c x
  signed_is minus k s w = rw (← s, w, e) (size-whole c x sized h)

  pub minus-result : (k : ℕ) → signed x ≡ true → k ≡ whole c (1000 * units_of (to_bits binary64 y)) (2 ^ 1074) → k < 2 ^ 63 → to_z w64 (of_z w64 (pos 0 -ℤ to_z w64 k)) ≡ millimetres c x
  minus-result k s w l = minus-back k l ∙ signed_is true k s w

  pub plus-result : (k : ℕ) → signed x ≡ false → k ≡ whole c (1000 * units_of (to_bits binary64 y)) (2 ^ 1074) → k < 2 ^ 63 → to_z w64 k ≡ millimetres c x
  plus-result k s w l = to_z_pos w64 k l ∙ signed_is false k s w
