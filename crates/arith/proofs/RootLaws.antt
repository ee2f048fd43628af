-- The root is monotone: the larger of two roots is the root of the larger. Assumes nothing.
use Rattle.std.proofs.Common.{◌≡◌, ℕ, zero, suc, ◌+◌, ◌-◌, ◌*◌, ◌/◌, ◌%◌, ◌^◌, ◌<◌, ◌≤◌, Bool, true, false, cond, ◌&&◌, ◌||◌, T, eqb, ltb, leb, List, [], ◌∷◌, ℤ, pos, negsuc, sym, refl, ap, ◌∙◌, subst, ap₂, true≢false, zero-le, le_trans, lt_trans, le_refl, lt_of_lt_of_le, le_of_suc-le-suc, le_of_lt, lt_irrefl, mul-le-mul_right, zero-lt-suc, mul_assoc, mul_comm, add_comm, le_antisymm, pos_of_ne-zero, mul-le-mul_left, mul-pos, lt_of_not-le, zero-mul, mul-one, mul_right_comm, not-le_of_lt, mul-div_cancel, arith, lit<, leb→le, pow_pos, pow_mono, pow-add, ltb-false, ltb-true, le-ltb, lt-ltb}
use native.Mathlib.Nat.{zero-div}
use mathlib.Core.Bool.{false≢true}
use lib.Ieee.{Float, nan, inf, fin, binary64, up, down, odd, units, round, sum, add, mul, lt, fits, is_nan, of_bits, to_bits}
use lib.Ieee.Fits.{round_is, add-fits, up_pos, down_pos, and_l, and_r}
use lib.Ieee.Bits.{of_bits-to_bits}
use Rattle.arith_root.specs.Root.{mag, root, plus, Nearest}
use Rattle.arith_root.proofs.Nearest.{root-nearest}
use Rattle.arith.specs.F64.{◌⊕◌, ◌⊗◌, ◌≺◌, finite, signed, fmax}
use Rattle.arith.specs.Vec.{dot, norm_squared, norm}
use Rattle.arith.specs.declared.Vec3.{Vec3}
use Rattle.arith.specs.Lists.{fold}
use Rattle.arith.proofs.Counts.{ltb-scale}
use Rattle.arith.proofs.Floats.{zero_exp, signed_odd}

-- ---- the size of an f64 in units is exact

whole : (n c d : ℕ) → 0 < d → n ≡ c * d → n / d * d ≡ n
whole n c d z e = ap (λ (x : ℕ). x / d * d) e ∙ ap (λ (x : ℕ). x * d) (mul-div_cancel c z) ∙ sym e

exact-exp : (s : Bool) (m : ℕ) (e : ℤ) → down e ≤ 2 ^ 1074 → mag (fin s m e) * down e ≡ m * up e * 2 ^ 1074
unfolding mag
exact-exp s m (pos i) l = whole (m * 2 ^ i * 2 ^ 1074) (m * 2 ^ i * 2 ^ 1074) 1 (zero-lt-suc 0) (sym (mul-one (m * 2 ^ i * 2 ^ 1074)))
exact-exp s m (negsuc i) l =
    let g : suc i ≤ 1074 = le_of_suc-le-suc (lt_of_not-le (λ (k : 1075 ≤ suc i). not-le_of_lt (lit< {m = 2 ^ 1074} {n = 2 ^ 1075} tt) (le_trans (pow_mono k) l))) in
    let e : 1074 ≡ 1074 - suc i + suc i = omega arith in
    whole (m * 1 * 2 ^ 1074) (m * 1 * 2 ^ (1074 - suc i)) (2 ^ suc i) (pow_pos (suc i))
    (ap (λ (x : ℕ). m * 1 * 2 ^ x) e ∙ ap (λ (x : ℕ). m * 1 * x) (pow-add 2 (1074 - suc i) (suc i)) ∙ sym (mul_assoc (m * 1) (2 ^ (1074 - suc i)) (2 ^ suc i)))

low : (s : Bool) (m : ℕ) (e : ℤ) → T (fits binary64 (fin s (suc m) e)) → down e ≤ 2 ^ 1074
unfolding fits
low s m e f =
    let a = eqb (suc m % 2) 1 in
    let b = ltb (suc m) (2 ^ 53) in
    let c = leb (down e) (2 ^ 1074) in
    leb→le (down e) (2 ^ 1074) (and_r (a && b) c (and_l (a && b && c) _ f))

exact : (s : Bool) (m : ℕ) (e : ℤ) → T (fits binary64 (fin s m e)) → mag (fin s m e) * down e ≡ m * up e * 2 ^ 1074
exact s zero e f = exact-exp s zero e (subst (λ (x : ℤ). down x ≤ 2 ^ 1074) (sym (zero_exp s e f)) (pow_pos 1074))
exact s (suc m) e f = exact-exp s (suc m) e (low s m e f)

-- ---- so the order is that of the sizes

cross : (a d x b c y u : ℕ) → 0 < d → 0 < c → 0 < u → x * d ≡ a * u → y * c ≡ b * u → ltb (a * c) (b * d) ≡ ltb x y
cross a d x b c y u D C U p q =
    sym (ltb-scale (a * c) (b * d) u U)
    ∙ ap₂ ltb (mul_right_comm a c u ∙ ap (λ (z : ℕ). z * c) (sym p) ∙ mul_assoc x d c) (mul_right_comm b d u ∙ ap (λ (z : ℕ). z * d) (sym q) ∙ mul_assoc y c d ∙ ap (λ (z : ℕ). y * z) (mul_comm c d))
    ∙ ltb-scale x y (d * c) (mul-pos D C)

lt-sizes : (r s : Float) → T (fits binary64 r) → T (fits binary64 s) → T (plus r) → T (plus s) → lt r s ≡ ltb (mag r) (mag s)
unfolding lt
lt-sizes nan s f g p q = absurd p
lt-sizes (inf t) s f g p q = absurd p
lt-sizes (fin true m e) s f g p q = absurd p
lt-sizes (fin false m e) nan f g p q = absurd q
lt-sizes (fin false m e) (inf t) f g p q = absurd q
lt-sizes (fin false m e) (fin true n d) f g p q = absurd q
lt-sizes (fin false m e) (fin false n d) f g p q =
    cross (m * up e) (down e) (mag (fin false m e)) (n * up d) (down d) (mag (fin false n d)) (2 ^ 1074) (down_pos e) (down_pos d) (pow_pos 1074) (exact false m e f) (exact false n d g)

bits-size : (r s : Float) → T (plus r) → T (plus s) → mag r ≡ mag s → to_bits binary64 r ≡ to_bits binary64 s
unfolding to_bits mag
bits-size nan s p q h = absurd p
bits-size (inf t) s p q h = absurd p
bits-size (fin true m e) s p q h = absurd p
bits-size (fin false m e) nan p q h = absurd q
bits-size (fin false m e) (inf t) p q h = absurd q
bits-size (fin false m e) (fin true n d) p q h = absurd q
bits-size (fin false m e) (fin false n d) p q h = ap (λ (x : ℕ). 0 + (lib.Ieee.size x - 53) * 2 ^ 52 + x / 2 ^ (lib.Ieee.size x - 53)) h

same_size : (r s : Float) → T (fits binary64 r) → T (fits binary64 s) → T (plus r) → T (plus s) → mag r ≡ mag s → r ≡ s
same_size r s f g p q h = sym (of_bits-to_bits binary64 r f) ∙ ap (of_bits binary64) (bits-size r s p q h) ∙ of_bits-to_bits binary64 s g

-- ---- the nearest of a larger square is no smaller

nearest-monotone : (x y r s : Float) → Nearest x r → Nearest y s → mag x ≤ mag y → mag r ≤ mag s
nearest-monotone x y r s R S h =
    le_of_suc-le-suc (lt_of_not-le (λ (l : mag s < mag r).
    let a : (mag s + mag r) * (mag s + mag r) < 4 * (mag x * 2 ^ 1074) = R.below s S.is-f64 S.is-plus l in
    let b : 4 * (mag y * 2 ^ 1074) < (mag r + mag s) * (mag r + mag s) = S.above r R.is-f64 R.is-plus l in
    let c : 4 * (mag x * 2 ^ 1074) ≤ 4 * (mag y * 2 ^ 1074) = mul-le-mul_left 4 (mul-le-mul_right (2 ^ 1074) h) in
    lt_irrefl (4 * (mag y * 2 ^ 1074)) (lt_trans b (lt_of_lt_of_le (subst (λ (z : ℕ). z * z < 4 * (mag x * 2 ^ 1074)) (add_comm (mag s) (mag r)) a) c))))

-- that of a square above 0 is above 0
abbrev least : Float
least = fin false 1 (negsuc 1073)

least_size : mag least ≡ 1
unfolding mag
least_size = refl

least_fits : T (fits binary64 least)
unfolding fits
least_fits = tt

nearest-some : (x r : Float) → Nearest x r → 0 < mag x → 0 < mag r
nearest-some x r R h = pos_of_ne-zero (λ (z : mag r ≡ 0).
    let l : mag r < mag least = subst (λ (k : ℕ). k < mag least) (sym z) (subst (λ (k : ℕ). 0 < k) (sym least_size) (zero-lt-suc 0)) in
    let a : 4 * (mag x * 2 ^ 1074) < 1 =
    subst (λ (k : ℕ). 4 * (mag x * 2 ^ 1074) < (k + 0) * (k + 0)) least_size (subst (λ (k : ℕ). 4 * (mag x * 2 ^ 1074) < (mag least + k) * (mag least + k)) z (R.above least least_fits tt l))
    in
    let b : 0 < mag x * 2 ^ 1074 = mul-pos h (pow_pos 1074) in
    few (mag x * 2 ^ 1074) b a)
  where
    few : (n : ℕ) → 0 < n → 4 * n < 1 → ⊥
    few n h k = omega arith

size-some : (m : ℕ) (e : ℤ) → T (fits binary64 (fin false (suc m) e)) → 0 < mag (fin false (suc m) e)
size-some m e f = pos_of_ne-zero (λ (z : mag (fin false (suc m) e) ≡ 0).
    lt_irrefl 0 (subst (λ (k : ℕ). 0 < k) (sym (exact false (suc m) e f) ∙ ap (λ (k : ℕ). k * down e) z ∙ zero-mul (down e)) (mul-pos (mul-pos (zero-lt-suc m) (up_pos e)) (pow_pos 1074))))

-- ---- the larger of two

of-fin : (s : Bool) (m : ℕ) (e : ℤ) (x : Float) → fmax (fin s m e) x ≡ cond (lt (fin s m e) x) x (fin s m e)
unfolding fmax is_nan
of-fin s m e x = refl

-- which of the two
taken : (s : Bool) (m : ℕ) (e : ℤ) (x : Float) → lt (fin s m e) x ≡ true → fmax (fin s m e) x ≡ x
taken s m e x h = of-fin s m e x ∙ ap (λ (c : Bool). cond c x (fin s m e)) h

left : (s : Bool) (m : ℕ) (e : ℤ) (x : Float) → lt (fin s m e) x ≡ false → fmax (fin s m e) x ≡ fin s m e
left s m e x h = of-fin s m e x ∙ ap (λ (c : Bool). cond c x (fin s m e)) h

larger : (r s : Float) → T (plus r) → fmax r s ≡ cond (lt r s) s r
larger nan s p = absurd p
larger (inf t) s p = absurd p
larger (fin t m e) s p = of-fin t m e s

module _ (r s : Float) (f : T (fits binary64 r)) (g : T (fits binary64 s)) (p : T (plus r)) (q : T (plus s)) where
  -- the same value is the same float
  pick : mag r ≤ mag s → fmax r s ≡ s
  pick h = larger r s p ∙ by (lt r s) (sym (lt-sizes r s f g p q))
    where
      by : (t : Bool) → ltb (mag r) (mag s) ≡ t → cond t s r ≡ s
      by true e = refl
      by false e = same_size r s f g p q (le_antisymm h (ltb-false (mag r) (mag s) e))

  keep : mag s ≤ mag r → fmax r s ≡ r
  keep h = larger r s p ∙ ap (λ (t : Bool). cond t s r) (lt-sizes r s f g p q ∙ le-ltb (mag r) (mag s) h)

-- ---- beside a NaN, an infinity or a zero

beside-nan : (r : Float) → T (plus r) → fmax r nan ≡ r
unfolding fmax is_nan lt
beside-nan nan p = absurd p
beside-nan (inf t) p = absurd p
beside-nan (fin t m e) p = refl

beside-inf : (r : Float) → T (plus r) → fmax r (inf false) ≡ inf false
unfolding fmax is_nan lt
beside-inf nan p = absurd p
beside-inf (inf t) p = absurd p
beside-inf (fin t m e) p = refl

none_above : (x : Float) → lt (inf false) x ≡ false
unfolding lt
none_above nan = refl
none_above (inf t) = refl
none_above (fin t m e) = refl

nil : (u d : ℕ) → 0 * u * d ≡ 0
nil u d = ap (λ (x : ℕ). x * d) (zero-mul u) ∙ zero-mul d

none-under : (m : ℕ) (e : ℤ) (t : Bool) (d : ℤ) → lt (fin false m e) (fin t zero d) ≡ false
unfolding lt
none-under m e true d = refl
none-under m e false d = le-ltb (m * up e * down d) (0 * up d * down e) (subst (λ (x : ℕ). x ≤ m * up e * down d) (sym (nil (up d) (down e))) zero-le)

beside-zero : (r : Float) (t : Bool) (d : ℤ) → T (plus r) → fmax r (fin t zero d) ≡ r
beside-zero nan t d p = absurd p
beside-zero (inf u) t d p = absurd p
beside-zero (fin true m e) t d p = absurd p
beside-zero (fin false m e) t d p = left false m e (fin t zero d) (none-under m e t d)

some : (m : ℕ) (e d : ℤ) → 0 < suc m * up e * down d
some m e d = mul-pos (mul-pos (zero-lt-suc m) (up_pos e)) (down_pos d)

-- a zero is below what is above 0, and not below what is below it
under_some : (s : Bool) (e : ℤ) (n : ℕ) (d : ℤ) → lt (fin s zero e) (fin false (suc n) d) ≡ true
unfolding lt
under_some true e n d = lt-ltb 0 (0 * up e * down d + suc n * up d * down e) (let h = some n d e in omega arith)
under_some false e n d = lt-ltb (0 * up e * down d) (suc n * up d * down e) (subst (λ (x : ℕ). x < suc n * up d * down e) (sym (nil (up e) (down d))) (some n d e))

over-minus : (s : Bool) (e : ℤ) (n : ℕ) (d : ℤ) → lt (fin s zero e) (fin true (suc n) d) ≡ false
unfolding lt
over-minus true e n d = le-ltb (suc n * up d * down e) (0 * up e * down d) (subst (λ (x : ℕ). x ≤ suc n * up d * down e) (sym (nil (up e) (down d))) zero-le)
over-minus false e n d = refl

zero-size : (e : ℤ) → mag (fin false zero e) ≡ 0
unfolding mag
zero-size e = ap (λ (x : ℕ). x / down e) (nil (up e) (2 ^ 1074)) ∙ zero-div (down e)

zero-under : (s : Bool) (e : ℤ) (r : Float) → T (plus r) → 0 < mag r → fmax (fin s zero e) r ≡ r
zero-under s e nan p h = absurd p
zero-under s e (inf t) p h = absurd p
zero-under s e (fin true n d) p h = absurd p
zero-under s e (fin false zero d) p h = absurd (lt_irrefl 0 (subst (λ (k : ℕ). 0 < k) (zero-size d) h))
zero-under s e (fin false (suc n) d) p h = taken s zero e (fin false (suc n) d) (under_some s e n d)

-- ---- the larger of two roots is the root of the larger, by kinds

zero-root : (s : Bool) (e : ℤ) → root (fin s zero e) ≡ fin s zero e
unfolding root
zero-root s e = refl

minus-root : (m : ℕ) (e : ℤ) → root (fin true (suc m) e) ≡ nan
unfolding root
minus-root m e = refl

nan-root : root nan ≡ nan
unfolding root
nan-root = refl

minus-inf : root (inf true) ≡ nan
unfolding root
minus-inf = refl

of_inf : (s : Bool) (x : Float) → fmax (inf s) x ≡ cond (lt (inf s) x) x (inf s)
unfolding fmax is_nan
of_inf s x = refl

inf-root : root (inf false) ≡ inf false
unfolding root
inf-root = refl

from-nan : (x : Float) → fmax nan x ≡ x
unfolding fmax is_nan
from-nan x = refl

max-minus : (b : Float) → root b ≡ root (fmax (inf true) b)
unfolding fmax is_nan lt root
max-minus nan = refl
max-minus (inf true) = refl
max-minus (inf false) = refl
max-minus (fin t n d) = refl

either-root : (c : Bool) (a b x : Float) → root a ≡ x → root b ≡ x → root (cond c b a) ≡ x
either-root true a b x p q = q
either-root false a b x p q = p

below-zero : (m : ℕ) (e d : ℤ) → lt (fin true (suc m) e) (fin true zero d) ≡ true
unfolding lt
below-zero m e d = lt-ltb (0 * up d * down e) (suc m * up e * down d) (subst (λ (x : ℕ). x < suc m * up e * down d) (sym (nil (up d) (down e))) (some m e d))

below-plus : (m : ℕ) (e : ℤ) (n : ℕ) (d : ℤ) → lt (fin true (suc m) e) (fin false n d) ≡ true
unfolding lt
below-plus m e n d = lt-ltb 0 (suc m * up e * down d + n * up d * down e) (let h = some m e d in omega arith)

max-negative : (m : ℕ) (e : ℤ) (b : Float) → root b ≡ root (fmax (fin true (suc m) e) b)
max-negative m e nan = unfold fmax is_nan lt root in refl
max-negative m e (inf true) = unfold fmax is_nan lt root in refl
max-negative m e (inf false) = unfold fmax is_nan lt root in refl
max-negative m e (fin true zero d) = sym (ap root (taken true (suc m) e (fin true zero d) (below-zero m e d)))
max-negative m e (fin true (suc n) d) =
    let a = fin true (suc m) e in
    let b = fin true (suc n) d in
    sym (ap root (of-fin true (suc m) e b) ∙ either-root (lt a b) a b (root b) (minus-root m e ∙ sym (minus-root n d)) refl)
max-negative m e (fin false n d) = sym (ap root (taken true (suc m) e (fin false n d) (below-plus m e n d)))

max-zero : (s : Bool) (e : ℤ) (b : Float) → T (fits binary64 b) → fmax (fin s zero e) (root b) ≡ root (fmax (fin s zero e) b)
max-zero s e nan f = unfold fmax is_nan lt root in refl
max-zero s e (inf true) f = unfold fmax is_nan lt root in refl
max-zero s e (inf false) f = unfold fmax is_nan lt root in refl
max-zero s e (fin t zero d) f =
    let a = fin s zero e in
    let b = fin t zero d in
    ap (fmax a) (zero-root t d) ∙ of-fin s zero e b ∙ sym (ap root (of-fin s zero e b) ∙ by (lt a b))
  where
    by : (c : Bool) → root (cond c (fin t zero d) (fin s zero e)) ≡ cond c (fin t zero d) (fin s zero e)
    by true = zero-root t d
    by false = zero-root s e
max-zero s e (fin true (suc n) d) f = ap (fmax (fin s zero e)) (minus-root n d) ∙ by ∙ sym (ap root (left s zero e (fin true (suc n) d) (over-minus s e n d)) ∙ zero-root s e)
  where
    by : fmax (fin s zero e) nan ≡ fin s zero e
    by = unfold fmax is_nan lt in refl
max-zero s e (fin false (suc n) d) f =
    let b = fin false (suc n) d in
    let N = root-nearest n d f in
    zero-under s e (root b) N.is-plus (nearest-some b (root b) N (size-some n d f)) ∙ sym (ap root (taken s zero e b (under_some s e n d)))

-- of two floats above 0
module _ (m : ℕ) (e : ℤ) (n : ℕ) (d : ℤ) (f : T (fits binary64 (fin false (suc m) e))) (g : T (fits binary64 (fin false (suc n) d))) where
  abbrev a : Float
  a = fin false (suc m) e

  abbrev b : Float
  b = fin false (suc n) d

  max-both : fmax (root a) (root b) ≡ root (fmax a b)
  max-both = by (lt a b) refl
    where
      by : (t : Bool) → lt a b ≡ t → fmax (root a) (root b) ≡ root (fmax a b)
      by true h =
          let N = root-nearest m e f in
          let M = root-nearest n d g in
          let l : mag a ≤ mag b = le_of_lt (ltb-true (mag a) (mag b) (sym (lt-sizes a b f g tt tt) ∙ h)) in
          pick (root a) (root b) N.is-f64 M.is-f64 N.is-plus M.is-plus (nearest-monotone a b (root a) (root b) N M l)
          ∙ sym (ap root (taken false (suc m) e b h))
      by false h =
          let N = root-nearest m e f in
          let M = root-nearest n d g in
          let l : mag b ≤ mag a = ltb-false (mag a) (mag b) (sym (lt-sizes a b f g tt tt) ∙ h) in
          keep (root a) (root b) N.is-f64 M.is-f64 N.is-plus M.is-plus (nearest-monotone b a (root b) (root a) M N l)
          ∙ sym (ap root (left false (suc m) e b h))

-- the second is not above 0
max-first : (m : ℕ) (e : ℤ) (b x : Float) → T (fits binary64 (fin false (suc m) e)) → root b ≡ x → ((r : Float) → T (plus r) → fmax r x ≡ r) → lt (fin false (suc m) e) b ≡ false →
    fmax (root (fin false (suc m) e)) (root b) ≡ root (fmax (fin false (suc m) e) b)
max-first m e b x f h k l =
    let a = fin false (suc m) e in
    ap (fmax (root a)) h ∙ k (root a) (root-nearest m e f).is-plus ∙ sym (ap root (left false (suc m) e b l))

max-plus : (m : ℕ) (e : ℤ) (b : Float) → T (fits binary64 (fin false (suc m) e)) → T (fits binary64 b) → fmax (root (fin false (suc m) e)) (root b) ≡ root (fmax (fin false (suc m) e) b)
max-plus m e nan f g = max-first m e nan nan f (unfold root in refl) beside-nan (unfold lt in refl)
max-plus m e (inf true) f g = max-first m e (inf true) nan f (unfold root in refl) beside-nan (unfold lt in refl)
max-plus m e (inf false) f g =
    let a = fin false (suc m) e in
    ap (fmax (root a)) inf-root ∙ beside-inf (root a) (root-nearest m e f).is-plus ∙ sym (ap root (beside-inf a tt) ∙ inf-root)
max-plus m e (fin t zero d) f g = max-first m e (fin t zero d) (fin t zero d) f (zero-root t d) (λ r p. beside-zero r t d p) (none-under (suc m) e t d)
max-plus m e (fin true (suc n) d) f g = max-first m e (fin true (suc n) d) nan f (minus-root n d) beside-nan (unfold lt in refl)
max-plus m e (fin false (suc n) d) f g = max-both m e n d f g

max-inf : (b : Float) → fmax (inf false) b ≡ inf false
unfolding fmax is_nan
max-inf b = ap (λ (c : Bool). cond c b (inf false)) (none_above b)

-- of any two f64s
pub fmax-root : (a b : Float) → T (fits binary64 a) → T (fits binary64 b) → fmax (root a) (root b) ≡ root (fmax a b)
fmax-root nan b f g = ap (λ (x : Float). fmax x (root b)) nan-root ∙ from-nan (root b) ∙ sym (ap root (from-nan b))
fmax-root (inf true) b f g = ap (λ (x : Float). fmax x (root b)) minus-inf ∙ from-nan (root b) ∙ max-minus b
fmax-root (inf false) b f g = ap (λ (x : Float). fmax x (root b)) inf-root ∙ max-inf (root b) ∙ sym (ap root (max-inf b) ∙ inf-root)
fmax-root (fin s zero e) b f g = ap (λ (x : Float). fmax x (root b)) (zero-root s e) ∙ max-zero s e b g
fmax-root (fin true (suc m) e) b f g = ap (λ (x : Float). fmax x (root b)) (minus-root m e) ∙ from-nan (root b) ∙ max-negative m e b
fmax-root (fin false (suc m) e) b f g = max-plus m e b f g

-- ---- the root of what is not less is not less

not-self : (x : Float) → lt x x ≡ false
unfolding lt
not-self nan = refl
not-self (inf true) = refl
not-self (inf false) = refl
not-self (fin true m e) = le-ltb (m * up e * down e) (m * up e * down e) (le_refl (m * up e * down e))
not-self (fin false m e) = le-ltb (m * up e * down e) (m * up e * down e) (le_refl (m * up e * down e))

max-less : (a b : Float) → lt a b ≡ true → fmax a b ≡ b
unfolding fmax
max-less a b h = ap (λ (c : Bool). cond (is_nan a || c) b a) h ∙ by (is_nan a)
  where
    by : (c : Bool) → cond (c || true) b a ≡ b
    by true = refl
    by false = refl

root-not-less : (a b : Float) → T (fits binary64 a) → T (fits binary64 b) → fmax a b ≡ a → lt (root a) (root b) ≡ false
root-not-less a b f g h = by (lt (root a) (root b)) refl
  where
    by : (t : Bool) → lt (root a) (root b) ≡ t → t ≡ false
    by true k = let e : root b ≡ root a = sym (max-less (root a) (root b) k) ∙ fmax-root a b f g ∙ ap root h in
        sym k ∙ ap (lt (root a)) e ∙ not-self (root a)
    by false k = refl

pub root-monotone : (a b : Float) → T (fits binary64 a) → T (fits binary64 b) → (a ≺ b) ≡ false → (root a ≺ root b) ≡ false
root-monotone nan b f g h = unfold lt root in refl
root-monotone (inf s) b f g h = root-not-less (inf s) b f g (of_inf s b ∙ ap (λ (c : Bool). cond c b (inf s)) h)
root-monotone (fin s m e) b f g h = root-not-less (fin s m e) b f g (left s m e b h)

-- ---- a square has no minus sign

signed_round : (s : Bool) (a c : ℕ) → signed (round binary64 s a c) ≡ s
signed_round s a c = ap signed (round_is binary64 s a c) ∙ of-units _ _
  where
    of-units : (q k : ℕ) → signed (units binary64 s q k) ≡ s
    of-units q k = unfold units in by (ltb (q * 2 ^ k) (2 ^ 2098)) (odd 54 s q k 1074) (signed_odd 54 s q k 1074)
      where
        by : (t : Bool) (x : Float) → signed x ≡ s → signed (cond t x (inf s)) ≡ s
        by true x h = h
        by false x h = unfold signed in refl

square-sign : (x : Float) → signed (x ⊗ x) ≡ false
unfolding mul signed
square-sign nan = refl
square-sign (inf true) = refl
square-sign (inf false) = refl
square-sign (fin true m e) = signed_round false (m * up e * (m * up e)) (down e * down e)
square-sign (fin false m e) = signed_round false (m * up e * (m * up e)) (down e * down e)

sum-sign : (x y : Float) → signed x ≡ false → signed y ≡ false → signed (x ⊕ y) ≡ false
unfolding add sum signed
sum-sign nan y h k = refl
sum-sign (inf s) nan h k = refl
sum-sign (inf true) (inf t) h k = absurd (true≢false h)
sum-sign (inf false) (inf true) h k = absurd (true≢false k)
sum-sign (inf false) (inf false) h k = refl
sum-sign (inf s) (fin t n d) h k = h
sum-sign (fin s m e) nan h k = refl
sum-sign (fin s m e) (inf t) h k = k
sum-sign (fin true m e) (fin t n d) h k = absurd (true≢false h)
sum-sign (fin false m e) (fin true n d) h k = absurd (true≢false k)
sum-sign (fin false m e) (fin false n d) h k = signed_round false (m * up e * down d + n * up d * down e) (down e * down d)

pub square-signed : (v : Vec3) → signed (norm_squared v) ≡ false
unfolding norm_squared dot
square-signed v = sum-sign (v.x ⊗ v.x ⊕ v.y ⊗ v.y) (v.z ⊗ v.z) (sum-sign (v.x ⊗ v.x) (v.y ⊗ v.y) (square-sign v.x) (square-sign v.y)) (square-sign v.z)

-- so a finite one has a finite root
pub root-plus : (x : Float) → T (fits binary64 x) → signed x ≡ false → finite x ≡ true → T (plus (root x))
unfolding signed finite
root-plus nan f h k = absurd (false≢true k)
root-plus (inf s) f h k = absurd (false≢true k)
root-plus (fin true m e) f h k = absurd (true≢false h)
root-plus (fin false zero e) f h k = subst (λ (r : Float). T (plus r)) (sym (zero-root false e)) tt
root-plus (fin false (suc m) e) f h k = (root-nearest m e f).is-plus

-- ---- the largest of many

pub square-fits : (v : Vec3) → T (fits binary64 (norm_squared v))
unfolding norm_squared dot
square-fits v = add-fits binary64 (v.x ⊗ v.x ⊕ v.y ⊗ v.y) (v.z ⊗ v.z)

fmax-fits : (a b : Float) → T (fits binary64 a) → T (fits binary64 b) → T (fits binary64 (fmax a b))
unfolding fmax
fmax-fits a b f g = by (is_nan a || a ≺ b)
  where
    by : (c : Bool) → T (fits binary64 (cond c b a))
    by true = g
    by false = f

-- the largest of many roots is the root of the largest: of the lengths of the vectors v a
pub largest-norm : {A : Type 0} (v : A → Vec3) (s : Float) (l : List A) → T (fits binary64 s) →
    fold (λ (r : Float) (a : A). fmax r (norm (v a))) (root s) l ≡ root (fold (λ (r : Float) (a : A). fmax r (norm_squared (v a))) s l)
unfolding fold norm
largest-norm v s [] f = refl
largest-norm {A} v s (a ∷ l) f =
    ap (λ (t : Float). fold (λ (r : Float) (a : A). fmax r (norm (v a))) t l) (fmax-root s (norm_squared (v a)) f (square-fits (v a)))
    ∙ largest-norm v (fmax s (norm_squared (v a))) l (fmax-fits s (norm_squared (v a)) f (square-fits (v a)))
