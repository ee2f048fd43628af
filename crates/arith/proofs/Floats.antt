-- What the tests and operators on floats say of the values, kind by kind. Assumes nothing.
use Rattle.std.proofs.Common.{◌≡◌, ℕ, zero, suc, ◌+◌, ◌*◌, ◌%◌, ◌^◌, ◌<◌, ◌≤◌, Bool, true, false, ◌&&◌, ◌||◌, T, eqb, ltb, ℤ, pos, negsuc, sym, refl, ◌∙◌, subst, one-mul, mul-one, arith, eqb→eq, le-ltb, lt-ltb, eq-eqb, ne_eqb}
use native.Mathlib.Decide.{ℕ_discrete}
use mathlib.Core.Bool.{false≢true}
use lib.Ieee.{Float, nan, inf, fin, binary64, up, down, lt, eq, ne, le, neg, odd, fits, is_nan, of_bits}
use lib.Ieee.{nan_bits}
use lib.Ieee.Bits.{nan_bits_is, nan_bits_above}
use Rattle.std.specs.Float.{float_with_sign, float_is_finite, is_sign_negative}
use Rattle.arith.specs.F64.{abs, finite, signed}

pub holds : {b : Bool} → b ≡ true → T b
holds e = subst T (sym e) tt

-- a zero that fits is written in one way
two_up : (p : ℕ) → 0 < p → 2 * p ≡ 1 → ⊥
two_up p h e = omega arith

flat : (e : ℤ) → up e * down e ≡ 1 → e ≡ pos 0
flat (pos zero) h = refl
flat (pos (suc k)) h = absurd (two_up (2 ^ k) (lib.Pow.pow_pos k) (sym (native.Mathlib.Nat.pow-succ' 2 k) ∙ sym (mul-one (2 ^ suc k)) ∙ h))
flat (negsuc k) h = absurd (two_up (2 ^ k) (lib.Pow.pow_pos k) (sym (native.Mathlib.Nat.pow-succ' 2 k) ∙ sym (one-mul (2 ^ suc k)) ∙ h))

pub zero_exp : (s : Bool) (e : ℤ) → T (fits binary64 (fin s zero e)) → e ≡ pos 0
unfolding fits
zero_exp s e t = flat e (eqb→eq (up e * down e) 1 t)

-- ---- |x|
pub abs-is : (x : Float) → float_with_sign false x ≡ abs x
unfolding float_with_sign abs
abs-is nan = refl
abs-is (inf s) = refl
abs-is (fin s m e) = refl

-- ---- |x| against a bound, by two tests

eqb-sym : (a b : ℕ) → eqb a b ≡ eqb b a
eqb-sym a b = by (ℕ_discrete a b)
  where
    by : Dec (a ≡ b) → eqb a b ≡ eqb b a
    by (yes e) = eq-eqb a b e ∙ sym (eq-eqb b a (sym e))
    by (no ne) = ne_eqb a b ne ∙ sym (ne_eqb b a (λ e. ne (sym e)))

and-true : (x y : Bool) → y ≡ true → x ≡ x && y
and-true true y e = sym e
and-true false y e = refl

or-true : (x : Bool) → x || true ≡ true
or-true true = refl
or-true false = refl

and-false : (x : Bool) → false ≡ x && false
and-false true = refl
and-false false = refl

-- -a is at most b
minus_plus : (a b : ℕ) → ltb 0 (a + b) || (eqb a b && eqb a 0) ≡ true
minus_plus a b = by (ℕ_discrete (a + b) 0)
  where
    by : Dec (a + b ≡ 0) → ltb 0 (a + b) || (eqb a b && eqb a 0) ≡ true
    by (yes e) =
        let ea : a ≡ 0 = omega arith in
        let eb : a ≡ b = omega arith in
        rw (eq-eqb a b eb, eq-eqb a 0 ea) (or-true (ltb 0 (a + b)))
    by (no ne) = rw (lt-ltb 0 (a + b) (omega arith))

plus-minus : (a b : ℕ) → eqb a b && eqb a 0 ≡ (eqb a b && eqb a 0) && (ltb b a || (eqb b a && true))
plus-minus a b = by (ℕ_discrete a b)
  where
    by : Dec (a ≡ b) → eqb a b && eqb a 0 ≡ (eqb a b && eqb a 0) && (ltb b a || (eqb b a && true))
    by (yes e) = and-true _ _ (rw (eq-eqb b a (sym e)) (or-true (ltb b a)))
    by (no ne) = rw (ne_eqb a b ne)

minus_minus : (a b : ℕ) → eqb a b && eqb a 0 ≡ (ltb b a || (eqb a b && true)) && (eqb b a && eqb b 0)
minus_minus a b = by (ℕ_discrete a b)
  where
    by : Dec (a ≡ b) → eqb a b && eqb a 0 ≡ (ltb b a || (eqb a b && true)) && (eqb b a && eqb b 0)
    by (yes e) = rw (eq-eqb a b e, eq-eqb b a (sym e), or-true (ltb b a), e)
    by (no ne) = rw (ne_eqb a b ne, ne_eqb b a (λ e. ne (sym e))) (and-false (ltb b a || false))

pub abs-within : (v c : Float) → le (abs v) c ≡ le v c && le (neg c) v
unfolding abs le lt eq neg
abs-within nan c = refl
abs-within (inf s) nan = refl
abs-within (inf true) (inf true) = refl
abs-within (inf true) (inf false) = refl
abs-within (inf false) (inf true) = refl
abs-within (inf false) (inf false) = refl
abs-within (inf true) (fin t n d) = refl
abs-within (inf false) (fin t n d) = refl
abs-within (fin s m e) nan = refl
abs-within (fin s m e) (inf true) = refl
abs-within (fin s m e) (inf false) = refl
abs-within (fin false m e) (fin false n d) = and-true _ _ (minus_plus (n * up d * down e) (m * up e * down d))
abs-within (fin true m e) (fin false n d) =
    rw (minus_plus (m * up e * down d) (n * up d * down e), eqb-sym (m * up e * down d) (n * up d * down e))
abs-within (fin false m e) (fin true n d) = plus-minus (m * up e * down d) (n * up d * down e)
abs-within (fin true m e) (fin true n d) = minus_minus (m * up e * down d) (n * up d * down e)

-- ---- finite
pub finite-is : (x : Float) → float_is_finite x ≡ finite x
unfolding float_is_finite finite
finite-is nan = refl
finite-is (inf s) = refl
finite-is (fin s m e) = refl

-- ---- the sign bit
pub signed-is : (x : Float) → is_sign_negative x ≡ signed x
unfolding is_sign_negative signed
signed-is nan = refl
signed-is (inf s) = refl
signed-is (fin s m e) = refl

pub signed-nan : (x : Float) → is_nan x ≡ true → false ≡ signed x
unfolding is_nan signed
signed-nan nan h = refl
signed-nan (inf s) h = absurd (false≢true h)
signed-nan (fin s m e) h = absurd (false≢true h)

pub signed_odd : (d : ℕ) (s : Bool) (q k l : ℕ) → signed (odd d s q k l) ≡ s
unfolding odd signed
signed_odd d s zero k l = refl
signed_odd d s (suc q) k l = refl

-- ---- bit patterns

pub nan-only : (x : Float) → is_nan x ≡ true → x ≡ nan
unfolding is_nan
nan-only nan h = refl
nan-only (inf s) h = absurd (false≢true h)
nan-only (fin s m e) h = absurd (false≢true h)

-- a pattern above the infinity's is the NaN's
pub above-nan : (n : ℕ) → 0x7ff0_0000_0000_0000 < n % 0x8000_0000_0000_0000 → of_bits binary64 n ≡ nan
above-nan n h = nan-only (of_bits binary64 n) (sym (nan_bits_is binary64 n) ∙ nan_bits_above binary64 n ∙ lt-ltb _ _ h)

-- a pattern not above it is not
pub below-number : (n : ℕ) → n % 0x8000_0000_0000_0000 ≤ 0x7ff0_0000_0000_0000 → nan_bits binary64 n ≡ false
below-number n h = nan_bits_above binary64 n ∙ le-ltb _ _ h
