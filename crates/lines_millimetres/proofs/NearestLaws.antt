-- `millimetres` is the one whole number that `NearestMm` holds of, for every float. Assumes nothing.
use mathlib.Core.Path.{◌≡◌, refl, sym, ap, ◌∙◌}
use mathlib.Core.Logic.{⊎_elim}
use Prim.Native.Nat.{ℕ, zero, suc, ◌+◌, ◌-◌, ◌*◌, ◌≤◌, ◌<◌}
use native.Mathlib.Nat.{zero-mul, suc-mul}
use native.Mathlib.Omega.{arith}
use mathlib.Core.Bool.{Bool, true, false, cond}
use lib.Dec.{ltb, lit<}
use lib.IntN.{ℤ, pos, negsuc, neg_ℤ, nat_abs, ◌-ℤ◌, ◌*ℤ◌, neg_ℤ-neg_ℤ, neg_ℤ-+ℤ}
use lib.Ieee.{Float, nan, inf, fin, up, down}
use lib.Ieee.Fits.{down_pos}
use borrow.Author.Tests.{ltb-true, ltb-false}
use Rattle.arith.proofs.RecordLaws.{lt-or-ge}
use Rattle.lines_millimetres.specs.Nearest.{Picked, NearestWhole, numerator, denominator, NearestMm, whole, settled, millimetres}
use Rattle.lines_millimetres.specs.Ensures.{OnlyNearest}
use Rattle.lines_millimetres.specs.declared.Rounding.{Rounding}
use Rattle.lines_millimetres.specs.declared.Rounding.TheVariants.{AwayFromZero, ToEven}
use Rattle.lines_millimetres.proofs.WholeLaws.{Near, whole-near, near-one}

-- ---- |n - m| of two numbers from 0, and opposites

gap : (n m : ℕ) → nat_abs (pos n -ℤ pos m) ≡ (n - m) + (m - n)
gap n zero = omega arith
gap n (suc m) = by (ltb n (suc m)) (ltb-true n (suc m)) (ltb-false n (suc m))
  where
    by : (b : Bool) → (b ≡ true → n < suc m) → (b ≡ false → suc m ≤ n) → nat_abs (cond b (negsuc (suc m - suc n)) (pos (n - suc m))) ≡ (n - suc m) + (suc m - n)
    by true h k = let l = h refl in omega arith
    by false h k = let l = k refl in omega arith

abs_neg : (z : ℤ) → nat_abs (neg_ℤ z) ≡ nat_abs z
abs_neg (pos zero) = refl
abs_neg (pos (suc n)) = refl
abs_neg (negsuc n) = refl

neg-times : (k : ℤ) (d : ℕ) → neg_ℤ k *ℤ pos d ≡ neg_ℤ (k *ℤ pos d)
neg-times (pos zero) d = rw (zero-mul d)
neg-times (pos (suc n)) d = refl
neg-times (negsuc n) d = sym (neg_ℤ-neg_ℤ (pos (suc n * d)))

neg-gap : (a k : ℤ) (d : ℕ) → nat_abs (neg_ℤ a -ℤ neg_ℤ k *ℤ pos d) ≡ nat_abs (a -ℤ k *ℤ pos d)
neg-gap a k d =
    ap (λ (z : ℤ). nat_abs (neg_ℤ a -ℤ z)) (neg-times k d) ∙ ap nat_abs (sym (neg_ℤ-+ℤ a (neg_ℤ (k *ℤ pos d)))) ∙ abs_neg (a -ℤ k *ℤ pos d)

neg-picked : (c : Rounding) (a k : ℤ) (d : ℕ) → Picked c a d k → Picked c (neg_ℤ a) d (neg_ℤ k)
unfolding Picked
neg-picked AwayFromZero a k d h = rw (abs_neg a, abs_neg k) h
neg-picked ToEven a k d h = rw (abs_neg k) h

nearest-neg : (c : Rounding) (a k : ℤ) (d : ℕ) → NearestWhole c a d k → NearestWhole c (neg_ℤ a) d (neg_ℤ k)
nearest-neg c a k d h =
    record { distance = rw (neg-gap a k d) h.distance; half = λ e. neg-picked c a k d (h.half (sym (ap (λ (n : ℕ). 2 * n) (neg-gap a k d)) ∙ e)) }

-- ---- `NearestWhole` of a number from 0 is `Near`

from-near : (c : Rounding) (n d k : ℕ) → Near c n d k → NearestWhole c (pos n) d (pos k)
from-near c n d k h =
    let g = gap n (k * d) in
    let l = h.low in
    let u = h.high in
    record {
      distance = rw g (omega arith);
      half = λ e. ⊎_elim (λ (b : n < k * d). h.half-low (omega arith)) (λ (b : k * d ≤ n). h.half_high (omega arith)) (lt-or-ge n (k * d));
    }

to-near : (c : Rounding) (n d : ℕ) (k : ℤ) → 0 < d → NearestWhole c (pos n) d k → (pos (nat_abs k) ≡ k) × Near c n d (nat_abs k)
to-near c n d (pos k) p h =
    let g = gap n (k * d) in
    let l : 2 * ((n - k * d) + (k * d - n)) ≤ d = rw g at h.distance in
    (refl, record { low = omega arith; high = omega arith; half-low = λ e. h.half (rw g (omega arith)); half_high = λ e. h.half (rw g (omega arith)) })
to-near c n d (negsuc k) p h =
    let l : 2 * (n + suc k * d) ≤ d = rw (neg_ℤ-neg_ℤ (pos (suc k * d))) at h.distance in
    let s = suc-mul k d in
    absurd (omega arith)

-- ---- exactly one

one_from : (c : Rounding) (n d : ℕ) (j k : ℤ) → 0 < d → NearestWhole c (pos n) d j → NearestWhole c (pos n) d k → j ≡ k
one_from c n d j k p h g =
    let a = to-near c n d j p h in
    let b = to-near c n d k p g in
    sym a.0 ∙ ap pos (near-one c n d (nat_abs j) (nat_abs k) p a.1 b.1) ∙ b.0

nearest-one : (c : Rounding) (a : ℤ) (d : ℕ) (j k : ℤ) → 0 < d → NearestWhole c a d j → NearestWhole c a d k → j ≡ k
nearest-one c (pos n) d j k p h g = one_from c n d j k p h g
nearest-one c (negsuc n) d j k p h g =
    sym (neg_ℤ-neg_ℤ j)
    ∙ ap neg_ℤ (one_from c (suc n) d (neg_ℤ j) (neg_ℤ k) p (nearest-neg c (negsuc n) j d h) (nearest-neg c (negsuc n) k d g))
    ∙ neg_ℤ-neg_ℤ k

denominator-pos : (x : Float) → 0 < denominator x
unfolding denominator
denominator-pos nan = lit< tt
denominator-pos (inf s) = lit< tt
denominator-pos (fin s m e) = down_pos e

millimetres-nearest : (c : Rounding) (x : Float) → NearestMm c x (millimetres c x)
unfolding numerator denominator millimetres whole settled
millimetres-nearest c nan = from-near c 0 1 0 (whole-near c 0 1 (lit< tt))
millimetres-nearest c (inf s) = from-near c 0 1 0 (whole-near c 0 1 (lit< tt))
millimetres-nearest c (fin true m e) =
    let n = 1000 * (m * up e) in
    nearest-neg c (pos n) (pos (whole c n (down e))) (down e) (from-near c n (down e) (whole c n (down e)) (whole-near c n (down e) (down_pos e)))
millimetres-nearest c (fin false m e) =
    let n = 1000 * (m * up e) in
    from-near c n (down e) (whole c n (down e)) (whole-near c n (down e) (down_pos e))

only-millimetres : (c : Rounding) (x : Float) (k : ℤ) → NearestMm c x k → k ≡ millimetres c x
only-millimetres c x k h = nearest-one c (numerator x) (denominator x) k (millimetres c x) (denominator-pos x) h (millimetres-nearest c x)

pub only-nearest : (c : Rounding) (x : Float) → OnlyNearest c x (millimetres c x)
only-nearest c x = record { nearest = millimetres-nearest c x; only = only-millimetres c x }
