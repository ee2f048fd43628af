-- The kinds of a float: what `sqrt`'s tests say of it, and its size by its pattern. Assumes nothing.
use mathlib.Core.Path.{◌≡◌, refl, sym, ap, ◌∙◌, subst}
use Prim.Native.Nat.{ℕ, zero, suc, ◌+◌, ◌-◌, ◌*◌, ◌/◌, ◌%◌, ◌^◌, ◌≤◌, ◌<◌}
use native.Mathlib.Nat.{mul-pos, mul-one, zero-lt-suc, mul-div_cancel, lt_irrefl, not-le_of_lt, pos_of_ne-zero, lt_of_not-le, le_of_suc-le-suc}
use native.Mathlib.Omega.{arith}
use mathlib.Core.Bool.{Bool, true, false, cond, not, true≢false, false≢true}
use lib.IntN.{ℤ, pos}
use lib.Dec.{T, eqb, leb}
use lib.Ieee.{Float, nan, inf, fin, binary64, up, down, lt, mul, odd, fits, is_nan, of_fields, of_bits, nan_bits, to_bits}
use lib.Ieee.Digits.{Equals, odd_val}
use lib.Ieee.Fits.{up_pos, down_pos}
use lib.Ieee.Bits.{of_bits-to_bits, to_bits-lt, nan_bits_is, nan_bits_above}
use borrow.Author.Tests.{ltb-true, ltb-false, lt-leb, le-ltb, eq-eqb, ne_eqb}
use Rattle.arith_root.specs.Root.{mag, root, rounded, plus}
use Rattle.arith_root.specs.Ensures.{units_of}

-- +0
abbrev pub nought : Float
nought = fin false 0 (pos 0)

-- ---- what is above +0, and what is below it

pub above_no_nan : (x : Float) → lt nought x ≡ true → T (not (is_nan x))
unfolding lt is_nan
above_no_nan nan h = absurd (false≢true h)
above_no_nan (inf s) h = tt
above_no_nan (fin s m e) h = tt

none_above : (u d : ℕ) → 0 * 1 * d < 0 * u * 1 → ⊥
none_above u d h = omega arith

none_below : (n d : ℕ) → n < 0 * 1 * d → ⊥
none_below n d h = omega arith

pub some-above : (m : ℕ) (e : ℤ) → 0 * 1 * down e < suc m * up e * 1
some-above m e = let h : 0 < suc m * up e = mul-pos (zero-lt-suc m) (up_pos e) in omega arith

-- ---- the size of what a pattern stands for

pub equals→mag : (x : Float) (a : ℕ) → Equals x a (2 ^ 1074) → mag x ≡ a
unfolding mag
equals→mag nan a h = absurd h
equals→mag (inf s) a h = absurd h
equals→mag (fin s m e) a h = ap (λ (x : ℕ). x / down e) h ∙ mul-div_cancel a (down_pos e)

pub mag-odd : (d : ℕ) (s : Bool) (q k : ℕ) → mag (odd d s q k 1074) ≡ q * 2 ^ k
mag-odd d s q k = equals→mag (odd d s q k 1074) (q * 2 ^ k) (odd_val d s q k 1074)

mag-fields : (b e : ℕ) → b / 2 ^ 52 ≡ e → e < 2047 → mag (of_fields binary64 false e (b % 2 ^ 52)) ≡ units_of b
unfolding of_fields units_of
mag-fields b zero h l =
    let g : b % 2 ^ 52 ≡ b = omega arith in
    mag-odd 53 false (b % 2 ^ 52) 0
    ∙ mul-one (b % 2 ^ 52)
    ∙ g
    ∙ sym (ap (λ (t : Bool). cond t b ((2 ^ 52 + b % 2 ^ 52) * 2 ^ (b / 2 ^ 52 - 1))) (eq-eqb (b / 2 ^ 52) 0 h))
mag-fields b (suc e) h l =
    let g : e ≡ b / 2 ^ 52 - 1 = omega arith in
    let n : b / 2 ^ 52 ≡ 0 → ⊥ = λ z. omega arith in
    ap (λ (t : Bool). mag (cond t (cond (eqb (b % 2 ^ 52) 0) (inf false) nan) (odd 53 false (2 ^ 52 + b % 2 ^ 52) e 1074))) (ne_eqb (suc e) 2047 (λ z. omega arith))
    ∙ mag-odd 53 false (2 ^ 52 + b % 2 ^ 52) e
    ∙ ap (λ (x : ℕ). (2 ^ 52 + b % 2 ^ 52) * 2 ^ x) g
    ∙ sym (ap (λ (t : Bool). cond t b ((2 ^ 52 + b % 2 ^ 52) * 2 ^ (b / 2 ^ 52 - 1))) (ne_eqb (b / 2 ^ 52) 0 n))

pub mag-bits : (b : ℕ) → b < 0x7ff0_0000_0000_0000 → mag (of_bits binary64 b) ≡ units_of b
unfolding of_bits
mag-bits b h =
    let f : b % 2 ^ 63 / 2 ^ 52 ≡ b / 2 ^ 52 = omega arith in
    ap (λ (s : Bool). mag (of_fields binary64 s (b % 2 ^ 63 / 2 ^ 52) (b % 2 ^ 52))) (lt-leb (2 ^ 63) b (omega arith))
    ∙ ap (λ (x : ℕ). mag (of_fields binary64 false x (b % 2 ^ 52))) f
    ∙ mag-fields b (b / 2 ^ 52) refl (omega arith)

-- ---- a pattern from the infinity's up is of no finite float above zero

plus-odd : (d q k l : ℕ) → plus (odd d true q k l) ≡ false
unfolding odd
plus-odd d zero k l = refl
plus-odd d (suc q) k l = refl

plus-cond : (c d : Bool) (s : Bool) (y : Float) → plus y ≡ false → plus (cond c (cond d (inf s) nan) y) ≡ false
plus-cond true true s y h = refl
plus-cond true false s y h = refl
plus-cond false d s y h = h

minus-fields : (x t : ℕ) → plus (of_fields binary64 true x t) ≡ false
unfolding of_fields
minus-fields zero t = plus-odd 53 t 0 1074
minus-fields (suc x) t = plus-cond (eqb (suc x) 2047) (eqb t 0) true (odd 53 true (2 ^ 52 + t) x 1074) (plus-odd 53 (2 ^ 52 + t) x 1074)

top-fields : (t : ℕ) → plus (of_fields binary64 false 2047 t) ≡ false
unfolding of_fields
top-fields t = go (eqb t 0)
  where
    go : (c : Bool) → plus (cond c (inf false) nan) ≡ false
    go true = refl
    go false = refl

pub plus-top : (b : ℕ) → 0x7ff0_0000_0000_0000 ≤ b → b < 2 ^ 64 → plus (of_bits binary64 b) ≡ false
unfolding of_bits
plus-top b l u = go (leb (2 ^ 63) b) refl
  where
    go : (s : Bool) → leb (2 ^ 63) b ≡ s → plus (of_fields binary64 s (b % 2 ^ 63 / 2 ^ 52) (b % 2 ^ 52)) ≡ false
    go true e = minus-fields (b % 2 ^ 63 / 2 ^ 52) (b % 2 ^ 52)
    go false e =
        let h : b < 2 ^ 63 = borrow.Author.Tests.leb-false (2 ^ 63) b e in
        let f : b % 2 ^ 63 / 2 ^ 52 ≡ 2047 = omega arith in
        rw f (top-fields (b % 2 ^ 52))

-- ---- the patterns that are no NaN's: those up to the infinity's, where the sign's digit is left out

pub no-nan-to : (b : ℕ) → b % 2 ^ 63 ≤ 0x7ff0_0000_0000_0000 → T (not (nan_bits binary64 b))
no-nan-to b h = subst (λ (t : Bool). T (not t)) (sym (nan_bits_above binary64 b ∙ le-ltb 0x7ff0_0000_0000_0000 (b % 2 ^ 63) h)) tt

pub to-no-nan : (x : Float) → T (fits binary64 x) → is_nan x ≡ false → to_bits binary64 x % 2 ^ 63 ≤ 0x7ff0_0000_0000_0000
to-no-nan x f h =
    ltb-false 0x7ff0_0000_0000_0000 (to_bits binary64 x % 2 ^ 63)
    (sym (nan_bits_above binary64 (to_bits binary64 x)) ∙ nan_bits_is binary64 (to_bits binary64 x) ∙ ap is_nan (of_bits-to_bits binary64 x f) ∙ h)

-- a factor of a product above zero
pub factor-no-nan : (x y : Float) → lt nought (mul binary64 x y) ≡ true → is_nan x ≡ false
unfolding lt mul is_nan
factor-no-nan nan y h = absurd (false≢true h)
factor-no-nan (inf s) y h = refl
factor-no-nan (fin s m e) y h = refl

-- a float above zero
pub above-to : (x : Float) → T (fits binary64 x) → lt nought x ≡ true → to_bits binary64 x ≤ 0x7ff0_0000_0000_0000
unfolding lt to_bits
above-to nan f h = absurd (false≢true h)
above-to (inf true) f h = absurd (false≢true h)
above-to (inf false) f h = omega arith
above-to (fin true m e) f h = absurd (false≢true h)
above-to (fin false m e) f h =
    le_of_suc-le-suc (lt_of_not-le (λ (g : suc 0x7ff0_0000_0000_0000 ≤ to_bits binary64 (fin false m e)).
    true≢false (ap plus (sym (of_bits-to_bits binary64 (fin false m e) f)) ∙ plus-top (to_bits binary64 (fin false m e)) (omega arith) (to_bits-lt binary64 (fin false m e) f))))

-- ---- the four ways out of `sqrt`, of an x that fits

pub some_bits : (x : Float) → T (fits binary64 x) → lt nought x ≡ true → 0 < to_bits binary64 x
unfolding of_bits lt
some_bits x f h = pos_of_ne-zero (λ (z : to_bits binary64 x ≡ 0).
    let e : x ≡ nought = sym (of_bits-to_bits binary64 x f) ∙ ap (of_bits binary64) z in
    false≢true (subst (λ (y : Float). lt nought y ≡ true) e h))

pub root-above : (x : Float) → T (fits binary64 x) → lt nought x ≡ true → to_bits binary64 x < 0x7ff0_0000_0000_0000 → rounded (units_of (to_bits binary64 x) * 2 ^ 1074) ≡ root x
unfolding lt root to_bits
root-above nan f h l = absurd (false≢true h)
root-above (inf true) f h l = absurd (false≢true h)
root-above (inf false) f h l = absurd (lt_irrefl 0x7ff0_0000_0000_0000 l)
root-above (fin true m e) f h l = absurd (false≢true h)
root-above (fin false zero e) f h l = absurd (none_above (up e) (down e) (ltb-true (0 * 1 * down e) (0 * up e * 1) h))
root-above (fin false (suc m) e) f h l =
    ap (λ (n : ℕ). rounded (n * 2 ^ 1074)) (sym (mag-bits (to_bits binary64 (fin false (suc m) e)) l) ∙ ap mag (of_bits-to_bits binary64 (fin false (suc m) e) f))

pub root-top : (x : Float) → T (fits binary64 x) → lt nought x ≡ true → 0x7ff0_0000_0000_0000 ≤ to_bits binary64 x → x ≡ root x
unfolding lt root
root-top nan f h l = absurd (false≢true h)
root-top (inf true) f h l = absurd (false≢true h)
root-top (inf false) f h l = refl
root-top (fin true m e) f h l = absurd (false≢true h)
root-top (fin false m e) f h l =
    absurd (true≢false (ap plus (sym (of_bits-to_bits binary64 (fin false m e) f)) ∙ plus-top (to_bits binary64 (fin false m e)) l (to_bits-lt binary64 (fin false m e) f)))

pub root_below : (x : Float) → lt x nought ≡ true → nan ≡ root x
unfolding lt root
root_below nan h = absurd (false≢true h)
root_below (inf true) h = refl
root_below (inf false) h = absurd (false≢true h)
root_below (fin true zero e) h = absurd (go (up e) (down e) (ltb-true 0 (0 * up e * 1 + 0 * 1 * down e) h))
  where
    go : (u d : ℕ) → 0 < 0 * u * 1 + 0 * 1 * d → ⊥
    go u d h = omega arith
root_below (fin true (suc m) e) h = refl
root_below (fin false m e) h = absurd (none_below (m * up e * 1) (down e) (ltb-true (m * up e * 1) (0 * 1 * down e) h))

pub root-else : (x : Float) → lt nought x ≡ false → lt x nought ≡ false → x ≡ root x
unfolding lt root
root-else nan g h = refl
root-else (inf true) g h = absurd (true≢false h)
root-else (inf false) g h = absurd (true≢false g)
root-else (fin true zero e) g h = refl
root-else (fin false zero e) g h = refl
root-else (fin true (suc m) e) g h =
    absurd (not-le_of_lt (go (suc m * up e) (down e) (mul-pos (zero-lt-suc m) (up_pos e))) (ltb-false 0 (suc m * up e * 1 + 0 * 1 * down e) h))
  where
    go : (n d : ℕ) → 0 < n → 0 < n * 1 + 0 * 1 * d
    go n d h = omega arith
root-else (fin false (suc m) e) g h =
    absurd (not-le_of_lt (some-above m e) (ltb-false (0 * 1 * down e) (suc m * up e * 1) g))
