-- Floats to counts: what `ceil_usize` finds by its tests. Assumes nothing.
use Rattle.std.proofs.Common.{◌≡◌, ℕ, zero, suc, ◌+◌, ◌-◌, ◌*◌, ◌/◌, ◌%◌, ◌^◌, ◌<◌, ◌≤◌, min, Bool, true, false, ◌&&◌, T, eqb, ltb, leb, ℤ, pos, negsuc, sym, refl, ap, ◌∙◌, subst, true≢false, zero-le, add-zero, mul-le-mul_right, mod-lt, div-lt_iff_lt-mul, add-mul, mul-lt-mul_of_pos_right, one-mul, div-add-mod', mul-one, mul_right_comm, arith, le→leb, ltb→lt, pow_pos, ltb-false, ltb-true, le-ltb, lt-ltb}
use mathlib.Core.Bool.{false≢true}
use lib.Arith.{digits_div}
use lib.Ieee.{Float, nan, inf, fin, binary64, up, down, below, lt, to_unsigned, of_int, in_float, fits}
use lib.Ieee.Fits.{down_pos, and_l, and_r}
use lib.Ieee.Exact.{HasValue}
use lib.Ieee.Back.{round_whole}
use Rattle.arith.specs.F64.{ceilℕ}

-- 2^53
abbrev pub cap : Float
cap = fin false 1 (pos 53)

-- ---- the whole part of what is below 2^53

under : (m : ℕ) (e : ℤ) → lt (fin false m e) cap ≡ true → m * up e < 9007199254740992 * down e
unfolding lt
under m e t = let k = ltb-true (m * up e * 1) (9007199254740992 * down e) t in omega arith

quot-lt : (m : ℕ) (e : ℤ) → lt (fin false m e) cap ≡ true → m * up e / down e < 9007199254740992
quot-lt m e h = (div-lt_iff_lt-mul {k = down e} {x = m * up e} {y = 9007199254740992} (down_pos e)).1 (under m e h)

quot : (m : ℕ) (e : ℤ) → lt (fin false m e) cap ≡ true → to_unsigned 64 (fin false m e) ≡ m * up e / down e
unfolding to_unsigned
quot m e h = let k = quot-lt m e h in omega arith

pub whole_le : (x : Float) → lt x cap ≡ true → to_unsigned 64 x ≤ 9007199254740992
unfolding to_unsigned lt
whole_le nan h = zero-le
whole_le (inf true) h = zero-le
whole_le (inf false) h = absurd (false≢true h)
whole_le (fin true m e) h = zero-le
whole_le (fin false m e) h = let k = quot-lt m e h in omega arith

pub whole_in : (n : ℕ) → n ≤ 9007199254740992 → T (in_float binary64 (pos n))
unfolding in_float
whole_in n h = le→leb n (2 ^ 53) (omega arith)

-- ---- the whole part against x

pub ltb-scale : (p a c : ℕ) → 0 < c → ltb (p * c) (a * c) ≡ ltb p a
ltb-scale p a c h = go (ltb p a) refl
  where
    go : (b : Bool) → ltb p a ≡ b → ltb (p * c) (a * c) ≡ b
    go true e = lt-ltb (p * c) (a * c) (mul-lt-mul_of_pos_right (ltb-true p a e) h)
    go false e = le-ltb (p * c) (a * c) (mul-le-mul_right c (ltb-false p a e))

lt-value : (y : Float) (n : ℕ) (s : Bool) (m : ℕ) (e : ℤ) → HasValue y false n 1 → lt y (fin s m e) ≡ below false (n * down e) s (m * up e)
unfolding lt
lt-value nan n s m e v = absurd v
lt-value (inf t) n s m e v = absurd v
lt-value (fin true k d) n s m e v = absurd (true≢false v.0)
lt-value (fin false k d) n true m e v = refl
lt-value (fin false k d) n false m e v =
    ap (λ (z : ℕ). ltb (z * down e) (m * up e * down d)) (sym (mul-one (k * up d)) ∙ v.1)
    ∙ ap (λ (z : ℕ). ltb z (m * up e * down d)) (mul_right_comm n (down d) (down e))
    ∙ ltb-scale (n * down e) (m * up e) (down d) (down_pos d)

not-below : (y : Float) (n : ℕ) → HasValue y false n 1 → lt y (inf true) ≡ false
unfolding lt
not-below nan n v = absurd v
not-below (inf t) n v = absurd v
not-below (fin t k d) n v = refl

value : (n : ℕ) → n ≤ 9007199254740992 → HasValue (of_int binary64 (pos n)) false n 1
unfolding of_int
value n h = round_whole binary64 false n (omega arith)

int_test : (n : ℕ) (s : Bool) (m : ℕ) (e : ℤ) → n ≤ 9007199254740992 → lt (of_int binary64 (pos n)) (fin s m e) ≡ below false (n * down e) s (m * up e)
int_test n s m e h = lt-value (of_int binary64 (pos n)) n s m e (value n h)

ceil-more : (a d : ℕ) → 0 < d → a / d * d < a → a / d + 1 ≡ (a + (d - 1)) / d
ceil-more a d p h =
    let e : a + (d - 1) ≡ (a / d + 1) * d + (a % d - 1) = rw (add-mul, one-mul) (omega (arith, div-add-mod' a d)) in
    let r : a % d < d = mod-lt a p in
    sym (ap (λ (x : ℕ). x / d) e ∙ digits_div (a / d + 1) (omega arith))

ceil-same : (a d : ℕ) → 0 < d → a ≤ a / d * d → a / d ≡ (a + (d - 1)) / d
ceil-same a d p h =
    let e : a + (d - 1) ≡ a / d * d + (d - 1) = omega (arith, div-add-mod' a d) in
    sym (ap (λ (x : ℕ). x / d) e ∙ digits_div (a / d) (omega arith))

-- x has a fraction
pub ceil-up : (x : Float) → lt x cap ≡ true → lt (of_int binary64 (pos (to_unsigned 64 x))) x ≡ true → to_unsigned 64 x + 1 ≡ ceilℕ x
unfolding ceilℕ
ceil-up nan h t = absurd (false≢true (unfold lt in h))
ceil-up (inf true) h t = absurd (false≢true (sym (not-below (of_int binary64 (pos (to_unsigned 64 (inf true)))) (to_unsigned 64 (inf true)) (value (to_unsigned 64 (inf true)) (whole_le (inf true) h))) ∙ t))
ceil-up (inf false) h t = absurd (false≢true (unfold lt in h))
ceil-up (fin true m e) h t = absurd (false≢true (sym (int_test (to_unsigned 64 (fin true m e)) true m e (whole_le (fin true m e) h)) ∙ t))
ceil-up (fin false m e) h t =
    let n = to_unsigned 64 (fin false m e) in
    let q = quot m e h in
    let l = quot-lt m e h in
    let u : n * down e < m * up e = ltb-true (n * down e) (m * up e) (sym (int_test n false m e (whole_le (fin false m e) h)) ∙ t) in
    let c = ceil-more (m * up e) (down e) (down_pos e) (rw q at u) in
    rw q (omega arith)

-- x is whole, or not above 0
pub ceil-kept : (x : Float) → lt x cap ≡ true → lt (of_int binary64 (pos (to_unsigned 64 x))) x ≡ false → to_unsigned 64 x ≡ ceilℕ x
unfolding ceilℕ to_unsigned
ceil-kept nan h t = refl
ceil-kept (inf s) h t = refl
ceil-kept (fin true m e) h t = refl
ceil-kept (fin false m e) h t =
    let n = to_unsigned 64 (fin false m e) in
    let q = quot m e h in
    let u : m * up e ≤ n * down e = ltb-false (n * down e) (m * up e) (sym (int_test n false m e (whole_le (fin false m e) h)) ∙ t) in
    let c = ceil-same (m * up e) (down e) (down_pos e) (subst (λ (x : ℕ). m * up e ≤ x * down e) q u) in
    ap (λ (k : ℕ). min k 18446744073709551615) c

-- an f64 with digits after its point is below 2^53
too_small : (m k : ℕ) → T (fits binary64 (fin false m (negsuc k))) → 9007199254740992 * 2 ^ suc k ≤ m * 1 * 1 → ⊥
unfolding fits
too_small zero k f g = let p = pow_pos (suc k) in omega arith
too_small (suc m) k f g =
    let p = pow_pos (suc k) in
    let a = eqb (suc m % 2) 1 in
    let b = ltb (suc m) (2 ^ 53) in
    let c = leb (2 ^ suc k) (2 ^ 1074) in
    let l : suc m < 9007199254740992 = ltb→lt (suc m) (2 ^ 53) (and_r a b (and_l (a && b) c (and_l (a && b && c) _ f))) in
    omega arith

-- an f64 from 2^53 on is whole
pub ceil-high : (x : Float) → T (fits binary64 x) → lt x cap ≡ false → to_unsigned 64 x ≡ ceilℕ x
unfolding ceilℕ to_unsigned
ceil-high nan f h = refl
ceil-high (inf s) f h = refl
ceil-high (fin true m e) f h = refl
ceil-high (fin false m (pos k)) f h = ap (λ (n : ℕ). min n 18446744073709551615) (ap (λ (n : ℕ). n / 1) (sym (add-zero (m * 2 ^ k))))
ceil-high (fin false m (negsuc k)) f h = absurd (too_small m k f (ltb-false (m * 1 * 1) (9007199254740992 * 2 ^ suc k) (unfold lt in h)))
