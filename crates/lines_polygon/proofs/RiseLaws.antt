-- Difference, quotient, clamp, product and floor keep the order of floats, so the place of a point between two bounds, counted in bins, rises with the point,
-- and with it every number that rises with the place. Assumes nothing.
use mathlib.Core.Path.{◌≡◌, refl, sym, ◌∙◌, subst}
use mathlib.Core.Bool.{Bool, true, false, not, cond, true≢false, false≢true}
use Prim.Native.Nat.{ℕ, zero, suc, ◌+◌, ◌*◌, ◌^◌, ◌≤◌, ◌<◌}
use native.Mathlib.Nat.{mul-pos, zero-lt-suc, le_refl}
use native.Mathlib.Omega.{arith}
use lib.IntN.{ℤ, pos}
use lib.Dec.{ltb, eqb-suc-zero}
use lib.Ieee.{Float, nan, inf, fin, binary64, unlike, up, down, odd, units, round, neg, add, sub, mul, div, lt, le, eq, is_nan, of_bits, of_int, to_unsigned}
use lib.Ieee.Fits.{up_pos, down_pos, round_is}
use lib.Ieee.Exact.{HasValue}
use lib.Ieee.Back.{round_whole}
use lib.Ieee.Nearest.{div_mono}
use Rattle.arith.specs.F64.{◌⊖◌, ◌⊗◌, ◌⊘◌, ◌≺◌, ◌≼◌, 0·0, 1·0, finite, clamp, ofℕ, floorℕ}
use Rattle.lines_polygon.proofs.OrderLaws.{plus, minus, below_true, below-through, through-below}
use Rattle.lines_polygon.proofs.CrossLaws.{nought, Rounded, sum-rounded, order, round-at-most, none, right-plus, at-most-as, scaled, div-plus, round-none, not-below-most, self, below_nan, sub-most, between-finite}

-- ---- floats that are no NaN

self-most : (x : Float) → is_nan x ≡ false → (x ≼ x) ≡ true
self-most nan f = absurd (true≢false (unfold is_nan in f))
self-most (inf true) f = unfold le lt eq in refl
self-most (inf false) f = unfold le lt eq in refl
self-most (fin s m e) f = self (fin s m e) (unfold finite in refl)

low-most : (x : Float) → is_nan x ≡ false → (inf true ≼ x) ≡ true
low-most nan f = absurd (true≢false (unfold is_nan in f))
low-most (inf true) f = unfold le lt eq in refl
low-most (inf false) f = unfold le lt eq in refl
low-most (fin s m e) f = unfold le lt eq in refl

high-most : (x : Float) → is_nan x ≡ false → (x ≼ inf false) ≡ true
high-most nan f = absurd (true≢false (unfold is_nan in f))
high-most (inf true) f = unfold le lt eq in refl
high-most (inf false) f = unfold le lt eq in refl
high-most (fin s m e) f = unfold le lt eq in refl

most-real : (x y : Float) → (x ≼ y) ≡ true → is_nan x ≡ false
unfolding is_nan
most-real nan y h = absurd (false≢true (unfold le lt eq in h))
most-real (inf s) y h = refl
most-real (fin s m e) y h = refl

real-most : (x y : Float) → (x ≼ y) ≡ true → is_nan y ≡ false
unfolding is_nan
real-most x (inf t) h = refl
real-most x (fin t n d) h = refl
real-most nan nan h = absurd (false≢true (unfold le lt eq in h))
real-most (inf s) nan h = absurd (false≢true (unfold le lt eq in h))
real-most (fin s m e) nan h = absurd (false≢true (unfold le lt eq in h))

-- what is not below is at most
pub not-below : (x y : Float) → is_nan x ≡ false → is_nan y ≡ false → (x ≺ y) ≡ false → (y ≼ x) ≡ true
not-below nan y f g h = absurd (true≢false (unfold is_nan in f))
not-below (inf true) nan f g h = absurd (true≢false (unfold is_nan in g))
not-below (fin s m e) nan f g h = absurd (true≢false (unfold is_nan in g))
not-below (inf true) (inf true) f g h = unfold le lt eq in refl
not-below (inf true) (inf false) f g h = absurd (true≢false (unfold lt in h))
not-below (inf true) (fin t n d) f g h = absurd (true≢false (unfold lt in h))
not-below (inf false) y f g h = high-most y g
not-below (fin s m e) (inf true) f g h = unfold le lt eq in refl
not-below (fin s m e) (inf false) f g h = absurd (true≢false (unfold lt in h))
not-below (fin s m e) (fin t n d) f g h = not-below-most s m e t n d h

-- ---- a difference

sub-real : (y : Float) (u : Bool) (o : ℕ) (g : ℤ) → is_nan y ≡ false → is_nan (y ⊖ fin u o g) ≡ false
sub-real nan u o g f = absurd (true≢false (unfold is_nan in f))
sub-real (inf t) u o g f = unfold sub add neg is_nan in refl
sub-real (fin t n d) u o g f = most-real _ _ (sub-most t n d t n d u o g (self-most (fin t n d) f))

sub_order : (x y c : Float) → finite c ≡ true → (x ≼ y) ≡ true → (x ⊖ c ≼ y ⊖ c) ≡ true
sub_order x y nan f h = absurd (false≢true (unfold finite in f))
sub_order x y (inf u) f h = absurd (false≢true (unfold finite in f))
sub_order nan y (fin u o g) f h = absurd (false≢true (unfold le lt eq in h))
sub_order (inf true) y (fin u o g) f h = let k = low-most _ (sub-real y u o g (real-most (inf true) y h)) in unfold sub add neg in k
sub_order (inf false) nan (fin u o g) f h = absurd (false≢true (unfold le lt eq in h))
sub_order (inf false) (inf true) (fin u o g) f h = absurd (false≢true (unfold le lt eq in h))
sub_order (inf false) (inf false) (fin u o g) f h = unfold sub add neg le lt eq in refl
sub_order (inf false) (fin t n d) (fin u o g) f h = absurd (false≢true (unfold le lt eq in h))
sub_order (fin s m e) nan (fin u o g) f h = absurd (false≢true (unfold le lt eq in h))
sub_order (fin s m e) (inf true) (fin u o g) f h = absurd (false≢true (unfold le lt eq in h))
sub_order (fin s m e) (inf false) (fin u o g) f h = let k = high-most _ (sub-real (fin s m e) u o g (unfold is_nan in refl)) in unfold sub add neg in k
sub_order (fin s m e) (fin t n d) (fin u o g) f h = sub-most s m e t n d u o g h

-- ---- the width between two bounds

-- +∞, or a number with no minus sign
data Plus : Float → Type 0 where
  endless : Plus (inf false)
  some : (m : ℕ) (g : ℤ) → Plus (fin false m g)

plus-odd : (d q k l : ℕ) → Plus (odd d false q k l)
unfolding odd
plus-odd d zero k l = some _ _
plus-odd d (suc q) k l = some _ _

plus-round : (a c : ℕ) → Plus (round binary64 false a c)
plus-round a c = subst Plus (sym (round_is binary64 false a c)) (of-units _ _)
  where
    of-units : (q k : ℕ) → Plus (units binary64 false q k)
    of-units q k = unfold units in by (ltb (q * 2 ^ k) (2 ^ 2098))
      where
        by : (t : Bool) → Plus (cond t (odd 54 false q k 1074) (inf false))
        by true = plus-odd 54 q k 1074
        by false = endless

plus-rounded : (x : Float) (p q c : ℕ) → Rounded x p q c → q < p → Plus x
plus-rounded x p q c r h = by r.sign r.is r.value
  where
    by : (s : Bool) → x ≡ round binary64 s r.size c → plus s r.size + q ≡ minus s r.size + p → Plus x
    by false e v = subst Plus (sym e) (plus-round r.size c)
    by true e v = absurd (omega arith)

width : (low high : Float) → finite low ≡ true → (low ≺ high) ≡ true → Plus (high ⊖ low)
width nan high f h = absurd (false≢true (unfold finite in f))
width (inf u) high f h = absurd (false≢true (unfold finite in f))
width (fin u o g) nan f h = absurd (false≢true (unfold lt in h))
width (fin u o g) (inf true) f h = absurd (false≢true (unfold lt in h))
width (fin u o g) (inf false) f h = unfold sub add neg in endless
width (fin u o g) (fin t n d) f h =
    unfold sub add neg in plus-rounded _ _ _ _ (sum-rounded (n * up d * down g) (o * up g * down d) (down d * down g) t (not u))
    (apart u (o * up g * down d) (n * up d * down g) (below_true (o * up g * down d) (n * up d * down g) u t (unfold lt in h)))
  where
    apart : (u : Bool) (b a : ℕ) → plus u b + minus t a < plus t a + minus u b → minus t a + minus (not u) b < plus t a + plus (not u) b
    apart true b a h = omega arith
    apart false b a h = omega arith

-- ---- a quotient

module _ (o : ℕ) (g : ℤ) where
  div-real : (y : Float) → is_nan y ≡ false → is_nan (y ⊘ fin false (suc o) g) ≡ false
  div-real nan f = absurd (true≢false (unfold is_nan in f))
  div-real (inf t) f = unfold div is_nan in refl
  div-real (fin t n d) f = most-real _ _ (div-plus t n d t n d (self-most (fin t n d) f) o g)

  div_order : (x y : Float) → (x ≼ y) ≡ true → (x ⊘ fin false (suc o) g ≼ y ⊘ fin false (suc o) g) ≡ true
  div_order nan y h = absurd (false≢true (unfold le lt eq in h))
  div_order (inf true) y h = let k = low-most _ (div-real y (real-most (inf true) y h)) in unfold div in k
  div_order (inf false) nan h = absurd (false≢true (unfold le lt eq in h))
  div_order (inf false) (inf true) h = absurd (false≢true (unfold le lt eq in h))
  div_order (inf false) (inf false) h = unfold div le lt eq in refl
  div_order (inf false) (fin t n d) h = absurd (false≢true (unfold le lt eq in h))
  div_order (fin s m e) nan h = absurd (false≢true (unfold le lt eq in h))
  div_order (fin s m e) (inf true) h = absurd (false≢true (unfold le lt eq in h))
  div_order (fin s m e) (inf false) h = let k = high-most _ (div-real (fin s m e) (unfold is_nan in refl)) in unfold div in k
  div_order (fin s m e) (fin t n d) h = div-plus s m e t n d h o g

-- ---- from 0 to 1

abbrev one : Float
one = fin false 1 (pos 0)

zero_is : 0·0 ≡ nought
unfolding of_bits
zero_is = refl

one-is : 1·0 ≡ one
unfolding of_bits
one-is = refl

-- `clamp` with its ends as they are
abbrev held : Float → Float
held x = cond (x ≺ nought) nought (cond (one ≺ x) one x)

clamp-is : (x : Float) → clamp x ≡ held x
unfolding clamp
clamp-is x = rw (zero_is, one-is)

record Unit (z : Float) : Type 0 where
  low : (nought ≼ z) ≡ true
  high : (z ≼ one) ≡ true

zero_one : (nought ≼ one) ≡ true
unfolding le lt eq
zero_one = refl

zero-zero : (nought ≼ nought) ≡ true
unfolding le lt eq
zero-zero = refl

one-one : (one ≼ one) ≡ true
unfolding le lt eq
one-one = refl

held-unit : (x : Float) → is_nan x ≡ false → Unit (held x)
held-unit x f = by (x ≺ nought) refl (one ≺ x) refl
  where
    by : (s : Bool) → (x ≺ nought) ≡ s → (t : Bool) → (one ≺ x) ≡ t → Unit (cond s nought (cond t one x))
    by true e t g = record { low = zero-zero; high = zero_one }
    by false e true g = record { low = zero_one; high = one-one }
    by false e false g =
        record { low = not-below x nought f (unfold is_nan in refl) e; high = not-below one x (unfold is_nan in refl) f g }

held-order : (x y : Float) → (x ≼ y) ≡ true → (held x ≼ held y) ≡ true
held-order x y h = by (x ≺ nought) refl (one ≺ x) refl
  where
    f : is_nan x ≡ false
    f = most-real x y h

    g : is_nan y ≡ false
    g = real-most x y h

    -- y is not below 0 where x is not
    above : (x ≺ nought) ≡ false → (y ≺ nought) ≡ false
    above e = is (y ≺ nought) refl
      where
        is : (s : Bool) → (y ≺ nought) ≡ s → s ≡ false
        is true k = sym (through-below x y nought h k) ∙ e
        is false k = refl

    least : (x ≺ nought) ≡ false → (one ≺ x) ≡ false → (t : Bool) → (one ≺ y) ≡ t → (x ≼ cond t one y) ≡ true
    least e k true i = not-below one x (unfold is_nan in refl) f k
    least e k false i = h

    by : (s : Bool) → (x ≺ nought) ≡ s → (t : Bool) → (one ≺ x) ≡ t → (cond s nought (cond t one x) ≼ held y) ≡ true
    by true e t k = (held-unit y g).low
    by false e true k = rw (above e, below-through one x y k h) one-one
    by false e false k = rw (above e) (least e k (one ≺ y) refl)

-- ---- a product

-- the float of a count is finite
data Whole : Float → Type 0 where
  whole : (o : ℕ) (g : ℤ) → Whole (fin false o g)

counted : (n : ℕ) → n ≤ 65536 → Whole (ofℕ n)
counted n h = unfold of_int in by (round binary64 false n 1) (round_whole binary64 false n (omega arith))
  where
    by : (x : Float) → HasValue x false n 1 → Whole x
    by nan v = absurd v
    by (inf s) v = absurd v
    by (fin true m e) v = absurd (true≢false v.0)
    by (fin false m e) v = whole m e

mul-order : (x y c : Float) → Whole c → Unit x → Unit y → (x ≼ y) ≡ true → (x ⊗ c ≼ y ⊗ c) ≡ true
mul-order x y c (whole o g) u v h = by x y (finite-in x u) (finite-in y v) h
  where
    finite-in : (z : Float) → Unit z → finite z ≡ true
    finite-in z u = between-finite nought z one (unfold finite in refl) (unfold finite in refl) u.low u.high

    by : (x y : Float) → finite x ≡ true → finite y ≡ true → (x ≼ y) ≡ true → (x ⊗ fin false o g ≼ y ⊗ fin false o g) ≡ true
    by nan y f k h = absurd (false≢true (unfold finite in f))
    by (inf s) y f k h = absurd (false≢true (unfold finite in f))
    by (fin s m e) nan f k h = absurd (false≢true (unfold finite in k))
    by (fin s m e) (inf t) f k h = absurd (false≢true (unfold finite in k))
    by (fin s m e) (fin t n d) f k h =
        unfold mul in round-at-most (m * up e * (o * up g)) (down e * down g) (n * up d * (o * up g)) (down d * down g) (mul-pos (down_pos e) (down_pos g)) (mul-pos (down_pos d) (down_pos g)) (unlike s false) (unlike t false)
        (at-most-as (right-plus s) (omega arith) (right-plus t) (omega arith) (scaled s m e t n d h o g))

-- ---- the whole part

pub floor-order : (x y : Float) → (x ≼ y) ≡ true → floorℕ x ≤ floorℕ y
unfolding to_unsigned
floor-order nan y h = absurd (false≢true (unfold le lt eq in h))
floor-order (inf true) y h = omega arith
floor-order (inf false) nan h = absurd (false≢true (unfold le lt eq in h))
floor-order (inf false) (inf true) h = absurd (false≢true (unfold le lt eq in h))
floor-order (inf false) (inf false) h = le_refl _
floor-order (inf false) (fin t n d) h = absurd (false≢true (unfold le lt eq in h))
floor-order (fin true m e) y h = omega arith
floor-order (fin false m e) nan h = absurd (false≢true (unfold le lt eq in h))
floor-order (fin false m e) (inf true) h = absurd (false≢true (unfold le lt eq in h))
floor-order (fin false m e) (inf false) h = omega arith
floor-order (fin false m e) (fin true n d) h =
    let k = order false m e true n d h in
    let z : m * up e ≡ 0 = none (m * up e) (down e) (n * up d) (down d) (down_pos d) (omega arith) in
    let q = div_mono (m * up e) (down e) 0 1 (down_pos e) (zero-lt-suc 0) (omega arith) in
    omega arith
floor-order (fin false m e) (fin false n d) h =
    let k = order false m e false n d h in
    let q = div_mono (m * up e) (down e) (n * up d) (down d) (down_pos e) (down_pos d) (omega arith) in
    omega arith

-- ---- a number that rises with the place

-- where a lies between `low` and `high`, counted in n parts of the way
abbrev pub placed : Float → Float → ℕ → Float → Float
placed low high n a = clamp ((a ⊖ low) ⊘ (high ⊖ low)) ⊗ ofℕ n

module _ (n : ℕ) (few : n ≤ 65536) (F : Float → ℕ) (rises : (x y : Float) → (x ≼ y) ≡ true → F x ≤ F y) (at-nan : F nan ≡ 0) (at_zero : F nought ≡ 0) where
  abbrev counts : Float → ℕ
  counts x = F (clamp x ⊗ ofℕ n)

  counts-order : (x y : Float) → (x ≼ y) ≡ true → counts x ≤ counts y
  counts-order x y h =
      rw (clamp-is x, clamp-is y)
      (rises _ _ (mul-order (held x) (held y) (ofℕ n) (counted n few) (held-unit x (most-real x y h)) (held-unit y (real-most x y h)) (held-order x y h)))

  counts-nan : counts nan ≡ 0
  counts-nan = rw (clamp-is nan, below_nan one) (unfold mul lt in at-nan)

  counts_zero : counts nought ≡ 0
  counts_zero = rw (clamp-is nought) (by (ofℕ n) (counted n few))
    where
      product : (o : ℕ) (g : ℤ) → nought ⊗ fin false o g ≡ nought
      product o g = unfold mul in round-none false (0 * 1 * (o * up g)) (1 * down g) (omega arith) (mul-pos (zero-lt-suc 0) (down_pos g))

      by : (c : Float) → Whole c → F (held nought ⊗ c) ≡ 0
      by c (whole o g) = unfold lt in rw (product o g) at_zero

  counts-low : (x : Float) → (x ≼ nought) ≡ true → counts x ≤ 0
  counts-low x h = let k = counts-order x nought h in let z = counts_zero in omega arith

  -- x over +∞, and over 0
  counts-endless : (x : Float) → counts (x ⊘ inf false) ≤ 0
  counts-endless nan = let z = counts-nan in unfold div in omega arith
  counts-endless (inf s) = let z = counts-nan in unfold div in omega arith
  counts-endless (fin true m e) = let z = counts-low (fin true 0 (pos 0)) (unfold le lt eq in refl) in unfold div in z
  counts-endless (fin false m e) = let z = counts-low (fin false 0 (pos 0)) (unfold le lt eq in refl) in unfold div in z

  counts-over : (g : ℤ) (x y : Float) → (x ≼ y) ≡ true → counts (x ⊘ fin false 0 g) ≤ counts (y ⊘ fin false 0 g)
  counts-over g nan y h = absurd (false≢true (unfold le lt eq in h))
  counts-over g (inf true) y h = let z = counts-low (inf true) (unfold le lt eq in refl) in unfold div in omega arith
  counts-over g (inf false) nan h = absurd (false≢true (unfold le lt eq in h))
  counts-over g (inf false) (inf true) h = absurd (false≢true (unfold le lt eq in h))
  counts-over g (inf false) (inf false) h = le_refl _
  counts-over g (inf false) (fin t k d) h = absurd (false≢true (unfold le lt eq in h))
  counts-over g (fin s zero e) y h = let z = counts-nan in unfold div in omega arith
  counts-over g (fin true (suc m) e) y h = let z = counts-low (inf true) (unfold le lt eq in refl) in unfold div in rw (eqb-suc-zero m) (omega arith)
  counts-over g (fin false (suc m) e) nan h = absurd (false≢true (unfold le lt eq in h))
  counts-over g (fin false (suc m) e) (inf true) h = absurd (false≢true (unfold le lt eq in h))
  counts-over g (fin false (suc m) e) (inf false) h = unfold div in rw (eqb-suc-zero m) (le_refl _)
  counts-over g (fin false (suc m) e) (fin true k d) h =
      let i = order false (suc m) e true k d h in
      let j = mul-pos (mul-pos (zero-lt-suc m) (up_pos e)) (down_pos d) in
      absurd (omega arith)
  counts-over g (fin false (suc m) e) (fin false zero d) h =
      let i = order false (suc m) e false 0 d h in
      let j = mul-pos (mul-pos (zero-lt-suc m) (up_pos e)) (down_pos d) in
      absurd (omega arith)
  counts-over g (fin false (suc m) e) (fin false (suc k) d) h = unfold div in rw (eqb-suc-zero m, eqb-suc-zero k) (le_refl _)

  counts-quotient : (d : Float) → Plus d → (x y : Float) → (x ≼ y) ≡ true → counts (x ⊘ d) ≤ counts (y ⊘ d)
  counts-quotient d endless x y h = let z = counts-endless x in omega arith
  counts-quotient d (some zero g) x y h = counts-over g x y h
  counts-quotient d (some (suc m) g) x y h = counts-order (x ⊘ fin false (suc m) g) (y ⊘ fin false (suc m) g) (div_order m g x y h)

  module _ (low high : Float) where
    pub along-rises : finite low ≡ true → (low ≺ high) ≡ true → (a b : Float) → (a ≼ b) ≡ true → F (placed low high n a) ≤ F (placed low high n b)
    along-rises f h a b k = counts-quotient (high ⊖ low) (width low high f h) (a ⊖ low) (b ⊖ low) (sub_order a b low f k)

    pub along-nan : F (placed low high n nan) ≡ 0
    along-nan = unfold sub add div in counts-nan
