-- Rounding keeps the order of sums, products and quotients, so a side that ends left of a point is not crossed to the right of it, and one that
-- starts right of a point is crossed wherever the point's height parts its ends. Assumes nothing.
use mathlib.Core.Path.{◌≡◌, refl, sym, ap, ◌∙◌, subst}
use mathlib.Core.Bool.{Bool, true, false, not, cond, ◌&&◌, beq, true≢false, false≢true}
use Prim.Native.Nat.{ℕ, zero, suc, ◌+◌, ◌-◌, ◌*◌, ◌^◌, ◌≤◌, ◌<◌}
use native.Mathlib.Nat.{mul-pos, zero-lt-suc, mul-le-mul_right, le_refl}
use native.Mathlib.Omega.{arith}
use lib.IntN.{ℤ, pos}
use lib.Dec.{T, ltb, eqb, eqb-suc-zero}
use lib.Ieee.{Float, nan, inf, fin, binary64, unlike, up, down, odd, units, round, neg, sum, add, sub, mul, div, lt, le, eq, is_nan, of_bits}
use lib.Ieee.Fits.{up_pos, down_pos, round_is}
use lib.Ieee.Order.{round_mono}
use lib.Ieee.Scale.{round_same}
use borrow.Author.Tests.{ltb-true, ltb-false, le-ltb}
use Rattle.arith.specs.F64.{◌⊕◌, ◌⊖◌, ◌⊗◌, ◌⊘◌, ◌≺◌, ◌≼◌, 0·0, finite, fmin, fmax}
use Rattle.arith.specs.Polygon.{crosses}
use Rattle.arith.specs.declared.Vec2.{Vec2}
use Rattle.lines_polygon.proofs.OrderLaws.{plus, minus, AtMost, below_false, at-most-true, at-most-is, at-most-by, plus-by, minus-by, below-through, through-below, most-through, below-not-below}

-- ---- rounding and the sign

abbrev pub nought : Float
nought = fin false 0 (pos 0)

is_true : (t : Bool) → T t → t ≡ true
is_true true h = refl
is_true false h = absurd h

odd-neg : (d q k l : ℕ) → odd d true q k l ≡ neg (odd d false q k l)
unfolding odd neg
odd-neg d zero k l = refl
odd-neg d (suc q) k l = refl

units-neg : (q k : ℕ) → units binary64 true q k ≡ neg (units binary64 false q k)
unfolding units neg
units-neg q k = by (ltb (q * 2 ^ k) (2 ^ 2098))
  where
    by : (t : Bool) → cond t (odd 54 true q k 1074) (inf true) ≡ neg (cond t (odd 54 false q k 1074) (inf false))
    by true = odd-neg 54 q k 1074
    by false = refl

pub round-neg : (a c : ℕ) → round binary64 true a c ≡ neg (round binary64 false a c)
round-neg a c = round_is binary64 true a c ∙ units-neg _ _ ∙ ap neg (sym (round_is binary64 false a c))

round-zero : (s : Bool) (c : ℕ) → 0 < c → round binary64 s 0 c ≡ fin s 0 (pos 0)
round-zero s c C = round_same binary64 s 0 c 0 1 C (zero-lt-suc 0) (omega arith) ∙ at_one s
  where
    at_one : (s : Bool) → round binary64 s 0 1 ≡ fin s 0 (pos 0)
    at_one true = unfold round in refl
    at_one false = unfold round in refl

at-most-neg : (a b : ℕ) (s t : Bool) → AtMost s a t b → AtMost (not t) b (not s) a
at-most-neg a b false false h = omega arith
at-most-neg a b false true h = omega arith
at-most-neg a b true false h = omega arith
at-most-neg a b true true h = omega arith

most-neg : (x y : Float) → (x ≼ y) ≡ true → (neg y ≼ neg x) ≡ true
unfolding le lt eq neg
most-neg nan y h = absurd (false≢true h)
most-neg (inf s) nan h = absurd (false≢true h)
most-neg (inf true) (inf true) h = refl
most-neg (inf true) (inf false) h = refl
most-neg (inf false) (inf true) h = absurd (false≢true h)
most-neg (inf false) (inf false) h = refl
most-neg (inf true) (fin t n d) h = refl
most-neg (inf false) (fin t n d) h = absurd (false≢true h)
most-neg (fin s m e) nan h = absurd (false≢true h)
most-neg (fin s m e) (inf true) h = absurd (false≢true h)
most-neg (fin s m e) (inf false) h = refl
most-neg (fin s m e) (fin t n d) h =
    at-most-is (n * up d * down e) (m * up e * down d) (not t) (not s) (at-most-neg (m * up e * down d) (n * up d * down e) s t (at-most-true (m * up e * down d) (n * up d * down e) s t h))

-- ---- rounding keeps the order of fractions with signs

pub round-plus : (a c b d : ℕ) → 0 < c → 0 < d → a * d ≤ b * c → (round binary64 false a c ≼ round binary64 false b d) ≡ true
round-plus a c b d C D h = is_true _ (round_mono binary64 a c b d C D h)

pub not-less : (b d : ℕ) → 0 < d → (nought ≼ round binary64 false b d) ≡ true
not-less b d D =
    subst (λ (x : Float). (x ≼ round binary64 false b d) ≡ true) (round-zero false 1 (zero-lt-suc 0)) (round-plus 0 1 b d (zero-lt-suc 0) D (omega arith))

pub none : (a c b d : ℕ) → 0 < d → a * d + b * c ≤ 0 → a ≡ 0
none zero c b d D h = refl
none (suc a) c b d D h = let k = mul-pos (zero-lt-suc a) D in absurd (omega arith)

pub round-at-most : (a c b d : ℕ) → 0 < c → 0 < d → (s t : Bool) → AtMost s (a * d) t (b * c) → (round binary64 s a c ≼ round binary64 t b d) ≡ true
round-at-most a c b d C D false false h = round-plus a c b d C D (omega arith)
round-at-most a c b d C D true true h = rw (round-neg a c, round-neg b d) (most-neg _ _ (round-plus b d a c D C (omega arith)))
round-at-most a c b d C D true false h =
    rw (round-neg a c)
    (most-through _ (fin true 0 (pos 0)) _ (unfold neg in most-neg nought (round binary64 false a c) (not-less a c C))
    (most-through _ nought _ (unfold le lt eq in refl) (not-less b d D)))
round-at-most a c b d C D false true h =
    let x : a ≡ 0 = none a c b d D (omega arith) in
    let y : b ≡ 0 = none b d a c C (omega arith) in
    rw (x, y, round-zero false c C, round-zero true d D) (unfold le lt eq in refl)

-- ---- a sum is (p - q) / c rounded

pub record Rounded (x : Float) (p q c : ℕ) : Type 0 where
  pub sign : Bool
  pub size : ℕ
  pub is : x ≡ round binary64 sign size c
  pub value : plus sign size + q ≡ minus sign size + p

module _ (a b c : ℕ) where
  pub sum-rounded : (s t : Bool) → Rounded (sum binary64 s a t b c) (plus s a + plus t b) (minus s a + minus t b) c
  unfolding sum
  sum-rounded false false = record { sign = false; size = a + b; is = refl; value = omega arith }
  sum-rounded true true = record { sign = true; size = a + b; is = refl; value = omega arith }
  sum-rounded false true = by (ltb a b) refl
    where
      by : (x : Bool) → ltb a b ≡ x → Rounded (cond x (round binary64 true (b - a) c) (round binary64 false (a - b) c)) (a + 0) (0 + b) c
      by true e = let k = ltb-true a b e in record { sign = true; size = b - a; is = refl; value = omega arith }
      by false e = let k = ltb-false a b e in record { sign = false; size = a - b; is = refl; value = omega arith }
  sum-rounded true false = by (ltb a b) refl (ltb b a) refl
    where
      by : (x : Bool) → ltb a b ≡ x → (y : Bool) → ltb b a ≡ y → Rounded (cond x (round binary64 false (b - a) c) (round binary64 (true && y) (a - b) c)) (0 + b) (a + 0) c
      by true e y f = let k = ltb-true a b e in record { sign = false; size = b - a; is = refl; value = omega arith }
      by false e true f = let k = ltb-false a b e in record { sign = true; size = a - b; is = refl; value = omega arith }
      by false e false f = let k = ltb-false a b e in let l = ltb-false b a f in record { sign = false; size = a - b; is = refl; value = omega arith }

rounded-most : (x y : Float) (p q c p' q' c' : ℕ) → 0 < c → 0 < c' → Rounded x p q c → Rounded y p' q' c' → p * c' + q' * c ≤ p' * c + q * c' → (x ≼ y) ≡ true
rounded-most x y p q c p' q' c' C C' r r' h =
    let s = r.sign in
    let t = r'.sign in
    let u = r.size in
    let v = r'.size in
    let k : AtMost s (u * c') t (v * c) =
    omega (arith, plus-by s u c', minus-by s u c', plus-by t v c, minus-by t v c, ap (λ (z : ℕ). z * c') r.value, ap (λ (z : ℕ). z * c) r'.value)
    in
    rw (r.is, r'.is) (round-at-most u c v c' C C' s t k)

sums : (s t u : Bool) (a d b e c f : ℕ) → AtMost s (a * e) t (b * d)
    → (plus s (a * f) + plus u (c * d)) * (e * f) + (minus t (b * f) + minus u (c * e)) * (d * f) ≤ (plus t (b * f) + plus u (c * e)) * (d * f) + (minus s (a * f) + minus u (c * d)) * (e * f)
sums s t u a d b e c f h =
    let k : plus s a * e + minus t b * d ≤ plus t b * d + minus s a * e = omega (arith, plus-by s a e, minus-by s a e, plus-by t b d, minus-by t b d) in
    rw (plus-by s a f, minus-by s a f, plus-by t b f, minus-by t b f, plus-by u c d, minus-by u c d, plus-by u c e, minus-by u c e) (omega (arith, mul-le-mul_right (f * f) k))

module _ (s : Bool) (m : ℕ) (e : ℤ) (t : Bool) (n : ℕ) (d : ℤ) (h : (fin s m e ≼ fin t n d) ≡ true) where
  pub order : AtMost s (m * up e * down d) t (n * up d * down e)
  order = at-most-true (m * up e * down d) (n * up d * down e) s t (unfold le lt eq in h)

  pub add_most : (u : Bool) (o : ℕ) (g : ℤ) → (fin s m e ⊕ fin u o g ≼ fin t n d ⊕ fin u o g) ≡ true
  unfolding add
  add_most u o g =
      let x = m * up e in
      let y = n * up d in
      let z = o * up g in
      rounded-most _ _ _ _ (down e * down g) _ _ (down d * down g) (mul-pos (down_pos e) (down_pos g)) (mul-pos (down_pos d) (down_pos g))
      (sum-rounded (x * down g) (z * down e) (down e * down g) s u) (sum-rounded (y * down g) (z * down d) (down d * down g) t u) (sums s t u x (down e) y (down d) z (down g) order)

-- ---- products and quotients

left-plus : (s : Bool) → s ≡ unlike false s
left-plus true = refl
left-plus false = refl

left-minus : (s : Bool) → not s ≡ unlike true s
left-minus true = refl
left-minus false = refl

pub right-plus : (s : Bool) → s ≡ unlike s false
right-plus true = refl
right-plus false = refl

right-minus : (s : Bool) → not s ≡ unlike s true
right-minus true = refl
right-minus false = refl

-- AtMost at equal signs and numbers
pub at-most-as : {s s' t t' : Bool} {a a' b b' : ℕ} → s ≡ s' → a ≡ a' → t ≡ t' → b ≡ b' → AtMost s a t b → AtMost s' a' t' b'
at-most-as {s} {s'} {t} {t'} {a} {a'} {b} {b'} p q p' q' h = rw (← p, ← q, ← p', ← q') h

module _ (s : Bool) (m : ℕ) (e : ℤ) (t : Bool) (n : ℕ) (d : ℤ) (h : (fin s m e ≼ fin t n d) ≡ true) (o : ℕ) (g : ℤ) where
  abbrev x : ℕ
  x = m * up e

  abbrev y : ℕ
  y = n * up d

  abbrev z : ℕ
  z = o * up g

  pub scaled : AtMost s (x * down d * (z * down g)) t (y * down e * (z * down g))
  scaled = at-most-by s t (x * down d) (y * down e) (z * down g) (order s m e t n d h)

  mul-plus : (fin false o g ⊗ fin s m e ≼ fin false o g ⊗ fin t n d) ≡ true
  unfolding mul
  mul-plus =
      round-at-most (z * x) (down g * down e) (z * y) (down g * down d) (mul-pos (down_pos g) (down_pos e)) (mul-pos (down_pos g) (down_pos d)) (unlike false s) (unlike false t)
      (at-most-as (left-plus s) (omega arith) (left-plus t) (omega arith) scaled)

  mul-minus : (fin true o g ⊗ fin t n d ≼ fin true o g ⊗ fin s m e) ≡ true
  unfolding mul
  mul-minus =
      round-at-most (z * y) (down g * down d) (z * x) (down g * down e) (mul-pos (down_pos g) (down_pos d)) (mul-pos (down_pos g) (down_pos e)) (unlike true t) (unlike true s)
      (at-most-as (left-minus t) (omega arith) (left-minus s) (omega arith) (at-most-neg _ _ s t scaled))

pub div_is : (s : Bool) (m : ℕ) (e : ℤ) (u : Bool) (o : ℕ) (g : ℤ) → fin s m e ⊘ fin u (suc o) g ≡ round binary64 (unlike s u) (m * up e * down g) (suc o * up g * down e)
unfolding div
div_is s m e u o g = rw (eqb-suc-zero o)

some : (o : ℕ) (g e : ℤ) → 0 < suc o * up g * down e
some o g e = mul-pos (mul-pos (zero-lt-suc o) (up_pos g)) (down_pos e)

module _ (s : Bool) (m : ℕ) (e : ℤ) (t : Bool) (n : ℕ) (d : ℤ) (h : (fin s m e ≼ fin t n d) ≡ true) (o : ℕ) (g : ℤ) where
  abbrev scaled-by : AtMost s (m * up e * down d * (suc o * up g * down g)) t (n * up d * down e * (suc o * up g * down g))
  scaled-by = scaled s m e t n d h (suc o) g

  pub div-plus : (fin s m e ⊘ fin false (suc o) g ≼ fin t n d ⊘ fin false (suc o) g) ≡ true
  div-plus =
      rw (div_is s m e false o g, div_is t n d false o g)
      (round-at-most (m * up e * down g) (suc o * up g * down e) (n * up d * down g) (suc o * up g * down d) (some o g e) (some o g d) (unlike s false) (unlike t false)
      (at-most-as (right-plus s) (omega arith) (right-plus t) (omega arith) scaled-by))

  div-minus : (fin t n d ⊘ fin true (suc o) g ≼ fin s m e ⊘ fin true (suc o) g) ≡ true
  div-minus =
      rw (div_is s m e true o g, div_is t n d true o g)
      (round-at-most (n * up d * down g) (suc o * up g * down d) (m * up e * down g) (suc o * up g * down e) (some o g d) (some o g e) (unlike t true) (unlike s true)
      (at-most-as (right-minus t) (omega arith) (right-minus s) (omega arith) (at-most-neg _ _ s t scaled-by)))

-- ---- x lies between 0 and y

data Part (x y : Float) : Type 0 where
  rising : (nought ≼ x) ≡ true → (x ≼ y) ≡ true → Part x y
  falling : (y ≼ x) ≡ true → (x ≼ nought) ≡ true → Part x y

pub between-finite : (x y z : Float) → finite x ≡ true → finite z ≡ true → (x ≼ y) ≡ true → (y ≼ z) ≡ true → finite y ≡ true
unfolding finite le lt eq
between-finite nan y z f g h k = absurd (false≢true f)
between-finite (inf s) y z f g h k = absurd (false≢true f)
between-finite (fin s m e) nan z f g h k = absurd (false≢true h)
between-finite (fin s m e) (inf true) z f g h k = absurd (false≢true h)
between-finite (fin s m e) (inf false) nan f g h k = absurd (false≢true g)
between-finite (fin s m e) (inf false) (inf u) f g h k = absurd (false≢true g)
between-finite (fin s m e) (inf false) (fin u o c) f g h k = absurd (false≢true k)
between-finite (fin s m e) (fin t n d) z f g h k = refl

part-finite : (x y : Float) → finite y ≡ true → Part x y → finite x ≡ true
part-finite x y f (rising h k) = between-finite nought x y (unfold finite in refl) f h k
part-finite x y f (falling h k) = between-finite y x nought f (unfold finite in refl) h k

-- a zero of either sign is 0 to the order
from_zero : (s : Bool) (w x : Float) → w ≡ fin s 0 (pos 0) → (w ≼ x) ≡ true → (nought ≼ x) ≡ true
from_zero s w x e h = most-through nought (fin s 0 (pos 0)) x (by s) (rw e at h)
  where
    by : (s : Bool) → (nought ≼ fin s 0 (pos 0)) ≡ true
    by true = unfold le lt eq in refl
    by false = unfold le lt eq in refl

to-zero : (s : Bool) (x w : Float) → w ≡ fin s 0 (pos 0) → (x ≼ w) ≡ true → (x ≼ nought) ≡ true
to-zero s x w e h = most-through x (fin s 0 (pos 0)) nought (rw e at h) (by s)
  where
    by : (s : Bool) → (fin s 0 (pos 0) ≼ nought) ≡ true
    by true = unfold le lt eq in refl
    by false = unfold le lt eq in refl

pub round-none : (s : Bool) (a c : ℕ) → a ≡ 0 → 0 < c → round binary64 s a c ≡ fin s 0 (pos 0)
round-none s a c e C = rw e (round-zero s c C)

mul-zero : (u : Bool) (o : ℕ) (g : ℤ) → fin u o g ⊗ nought ≡ fin (unlike u false) 0 (pos 0)
unfolding mul
mul-zero u o g = round-none (unlike u false) (o * up g * (0 * 1)) (down g * 1) (omega arith) (mul-pos (down_pos g) (zero-lt-suc 0))

zero-div : (u : Bool) (o : ℕ) (g : ℤ) → nought ⊘ fin u (suc o) g ≡ fin (unlike false u) 0 (pos 0)
zero-div u o g = div_is false 0 (pos 0) u o g ∙ round-none (unlike false u) (0 * 1 * down g) (suc o * up g * 1) (omega arith) (some o g (pos 0))

mul-part : (c x y : Float) → finite c ≡ true → finite x ≡ true → finite y ≡ true → Part x y → Part (c ⊗ x) (c ⊗ y)
unfolding finite
mul-part nan x y f h k p = absurd (false≢true f)
mul-part (inf u) x y f h k p = absurd (false≢true f)
mul-part (fin u o g) nan y f h k p = absurd (false≢true h)
mul-part (fin u o g) (inf s) y f h k p = absurd (false≢true h)
mul-part (fin u o g) (fin s m e) nan f h k p = absurd (false≢true k)
mul-part (fin u o g) (fin s m e) (inf t) f h k p = absurd (false≢true k)
mul-part (fin false o g) (fin s m e) (fin t n d) f h k (rising a b) =
    rising (from_zero false _ _ (mul-zero false o g) (mul-plus false 0 (pos 0) s m e a o g)) (mul-plus s m e t n d b o g)
mul-part (fin false o g) (fin s m e) (fin t n d) f h k (falling a b) =
    falling (mul-plus t n d s m e a o g) (to-zero false _ _ (mul-zero false o g) (mul-plus s m e false 0 (pos 0) b o g))
mul-part (fin true o g) (fin s m e) (fin t n d) f h k (rising a b) =
    falling (mul-minus s m e t n d b o g) (to-zero true _ _ (mul-zero true o g) (mul-minus false 0 (pos 0) s m e a o g))
mul-part (fin true o g) (fin s m e) (fin t n d) f h k (falling a b) =
    rising (from_zero true _ _ (mul-zero true o g) (mul-minus s m e false 0 (pos 0) b o g)) (mul-minus t n d s m e a o g)

div-part : (u : Bool) (o : ℕ) (g : ℤ) (x y : Float) → finite x ≡ true → finite y ≡ true → Part x y → Part (x ⊘ fin u (suc o) g) (y ⊘ fin u (suc o) g)
unfolding finite
div-part u o g nan y h k p = absurd (false≢true h)
div-part u o g (inf s) y h k p = absurd (false≢true h)
div-part u o g (fin s m e) nan h k p = absurd (false≢true k)
div-part u o g (fin s m e) (inf t) h k p = absurd (false≢true k)
div-part false o g (fin s m e) (fin t n d) h k (rising a b) =
    rising (from_zero false _ _ (zero-div false o g) (div-plus false 0 (pos 0) s m e a o g)) (div-plus s m e t n d b o g)
div-part false o g (fin s m e) (fin t n d) h k (falling a b) =
    falling (div-plus t n d s m e a o g) (to-zero false _ _ (zero-div false o g) (div-plus s m e false 0 (pos 0) b o g))
div-part true o g (fin s m e) (fin t n d) h k (rising a b) =
    falling (div-minus s m e t n d b o g) (to-zero true _ _ (zero-div true o g) (div-minus false 0 (pos 0) s m e a o g))
div-part true o g (fin s m e) (fin t n d) h k (falling a b) =
    rising (from_zero true _ _ (zero-div true o g) (div-minus s m e false 0 (pos 0) b o g)) (div-minus t n d s m e a o g)

-- ---- which operands a finite result has

over_zero : (x : Float) (t : Bool) (g : ℤ) → finite (x ⊘ fin t 0 g) ≡ false
unfolding div finite
over_zero nan t g = refl
over_zero (inf s) t g = refl
over_zero (fin s m e) t g = by (eqb m 0)
  where
    by : (z : Bool) → finite (cond z nan (inf (unlike s t))) ≡ false
    by true = refl
    by false = refl

divided : (x : Float) (t : Bool) (n : ℕ) (g : ℤ) → finite (x ⊘ fin t n g) ≡ true → finite x ≡ true
unfolding div finite
divided nan t n g h = h
divided (inf s) t n g h = h
divided (fin s m e) t n g h = refl

-- two finite floats, the second not zero
data Divides : Float → Float → Type 0 where
  divides : (s : Bool) (m : ℕ) (e : ℤ) (t : Bool) (n : ℕ) (g : ℤ) → Divides (fin s m e) (fin t (suc n) g)

operands : (d f : Float) → finite (d ⊗ f ⊘ f) ≡ true → Divides d f
operands nan f h = absurd (false≢true (unfold mul div finite in h))
operands (inf s) nan h = absurd (false≢true (unfold mul div finite in h))
operands (inf s) (inf t) h = absurd (false≢true (unfold mul div finite in h))
operands (inf s) (fin t n g) h = absurd (by (eqb n 0) (unfold mul in h))
  where
    by : (z : Bool) → finite (cond z nan (inf (unlike s t)) ⊘ fin t n g) ≡ true → ⊥
    by true h = false≢true (unfold div finite in h)
    by false h = false≢true (unfold div finite in h)
operands (fin s m e) nan h = absurd (false≢true (unfold mul div finite in h))
operands (fin s m e) (inf t) h = absurd (by (eqb m 0) (unfold mul in h))
  where
    by : (z : Bool) → finite (cond z nan (inf (unlike s t)) ⊘ inf t) ≡ true → ⊥
    by true h = false≢true (unfold div finite in h)
    by false h = false≢true (unfold div finite in h)
operands (fin s m e) (fin t zero g) h = absurd (false≢true (sym (over_zero (fin s m e ⊗ fin t zero g) t g) ∙ h))
operands (fin s m e) (fin t (suc n) g) h = divides s m e t n g

divisor : (d f : Float) → Divides d f → finite f ≡ true
divisor d f (divides s m e t n g) = unfold finite in refl

part-quotient : (d f v : Float) → Divides d f → finite (d ⊗ f ⊘ f) ≡ true → Part v f → Part (d ⊗ v ⊘ f) (d ⊗ f ⊘ f)
part-quotient d f v (divides s m e t n g) h p =
    let i : finite f ≡ true = unfold finite in refl in
    let j : finite (d ⊗ f) ≡ true = divided (d ⊗ f) t (suc n) g h in
    let k : Part (d ⊗ v) (d ⊗ f) = mul-part d v f (unfold finite in refl) (part-finite v f i p) i p in
    div-part t n g (d ⊗ v) (d ⊗ f) (part-finite (d ⊗ v) (d ⊗ f) j k) j k

-- ---- the point's height lies between those of the ends

pub sub-most : (s : Bool) (m : ℕ) (e : ℤ) (t : Bool) (n : ℕ) (d : ℤ) (u : Bool) (o : ℕ) (g : ℤ) → (fin s m e ≼ fin t n d) ≡ true → (fin s m e ⊖ fin u o g ≼ fin t n d ⊖ fin u o g) ≡ true
unfolding sub neg
sub-most s m e t n d u o g h = add_most s m e t n d h (not u) o g

sum_self : (a c : ℕ) → 0 < c → (s : Bool) → sum binary64 s a (not s) a c ≡ nought
unfolding sum
sum_self a c C true = rw (le-ltb a a (le_refl a)) (round-none false (a - a) c (omega arith) C)
sum_self a c C false = rw (le-ltb a a (le_refl a)) (round-none false (a - a) c (omega arith) C)

sub_self : (s : Bool) (m : ℕ) (e : ℤ) → fin s m e ⊖ fin s m e ≡ nought
unfolding sub
sub_self s m e = sum_self (m * up e * down e) (down e * down e) (mul-pos (down_pos e) (down_pos e)) s

below-most : (x y : Float) → (x ≺ y) ≡ true → (x ≼ y) ≡ true
unfolding le
below-most x y h = rw h

pub not-below-most : (s : Bool) (m : ℕ) (e : ℤ) (t : Bool) (n : ℕ) (d : ℤ) → (fin s m e ≺ fin t n d) ≡ false → (fin t n d ≼ fin s m e) ≡ true
unfolding le lt eq
not-below-most s m e t n d h = at-most-is (n * up d * down e) (m * up e * down d) t s (below_false (m * up e * down d) (n * up d * down e) s t h)

part-falling : (q a b : Float) → finite a ≡ true → finite b ≡ true → (q ≺ a) ≡ true → (q ≺ b) ≡ false → Part (q ⊖ a) (b ⊖ a)
part-falling q nan b f g h k = absurd (false≢true (unfold finite in f))
part-falling q (inf u) b f g h k = absurd (false≢true (unfold finite in f))
part-falling q (fin u o c) nan f g h k = absurd (false≢true (unfold finite in g))
part-falling q (fin u o c) (inf t) f g h k = absurd (false≢true (unfold finite in g))
part-falling nan (fin u o c) (fin t n d) f g h k = absurd (false≢true (unfold lt in h))
part-falling (inf true) (fin u o c) (fin t n d) f g h k = absurd (true≢false (unfold lt in k))
part-falling (inf false) (fin u o c) (fin t n d) f g h k = absurd (false≢true (unfold lt in h))
part-falling (fin s m e) (fin u o c) (fin t n d) f g h k =
    falling (sub-most t n d s m e u o c (not-below-most s m e t n d k)) (rw (sub_self u o c) at (sub-most s m e u o c u o c (below-most (fin s m e) (fin u o c) h)))

part-rising : (q a b : Float) → finite a ≡ true → finite b ≡ true → (q ≺ a) ≡ false → (q ≺ b) ≡ true → Part (q ⊖ a) (b ⊖ a)
part-rising q nan b f g h k = absurd (false≢true (unfold finite in f))
part-rising q (inf u) b f g h k = absurd (false≢true (unfold finite in f))
part-rising q (fin u o c) nan f g h k = absurd (false≢true (unfold finite in g))
part-rising q (fin u o c) (inf t) f g h k = absurd (false≢true (unfold finite in g))
part-rising nan (fin u o c) (fin t n d) f g h k = absurd (false≢true (unfold lt in k))
part-rising (inf true) (fin u o c) (fin t n d) f g h k = absurd (true≢false (unfold lt in h))
part-rising (inf false) (fin u o c) (fin t n d) f g h k = absurd (false≢true (unfold lt in k))
part-rising (fin s m e) (fin u o c) (fin t n d) f g h k =
    rising (rw (sub_self u o c) at (sub-most u o c s m e u o c (not-below-most s m e u o c h))) (sub-most s m e t n d u o c (below-most (fin s m e) (fin t n d) k))

-- the ends of a finite difference are finite
first : (x y : Float) → finite (x ⊖ y) ≡ true → finite x ≡ true
unfolding sub finite
first nan y h = h
first (inf s) nan h = h
first (inf s) (inf t) h = absurd (by (beq s (not t)) h)
  where
    by : (z : Bool) → finite (cond z (inf s) nan) ≡ true → ⊥
    by true h = false≢true h
    by false h = false≢true h
first (inf s) (fin t n d) h = h
first (fin s m e) y h = refl

second : (x y : Float) → finite (x ⊖ y) ≡ true → finite y ≡ true
unfolding sub finite
second nan y h = absurd (false≢true h)
second (inf s) nan h = h
second (inf s) (inf t) h = absurd (by (beq s (not t)) h)
  where
    by : (z : Bool) → finite (cond z (inf s) nan) ≡ true → ⊥
    by true h = false≢true h
    by false h = false≢true h
second (inf s) (fin t n d) h = refl
second (fin s m e) nan h = h
second (fin s m e) (inf t) h = h
second (fin s m e) (fin t n d) h = refl

-- ---- the larger of y and 0

pub self : (x : Float) → finite x ≡ true → (x ≼ x) ≡ true
unfolding finite le lt eq
self nan f = absurd (false≢true f)
self (inf s) f = absurd (false≢true f)
self (fin s m e) f = at-most-is (m * up e * down e) (m * up e * down e) s s (le_refl _)

record Larger (y z : Float) : Type 0 where
  is_finite : finite z ≡ true
  of-y : (y ≼ z) ≡ true
  of-0 : (nought ≼ z) ≡ true

larger : (y : Float) → finite y ≡ true → Larger y (fmax y nought)
larger nan f = absurd (false≢true (unfold finite in f))
larger (inf s) f = absurd (false≢true (unfold finite in f))
larger (fin s m e) f = unfold fmax is_nan in by (fin s m e ≺ nought) refl
  where
    by : (t : Bool) → (fin s m e ≺ nought) ≡ t → Larger (fin s m e) (cond t nought (fin s m e))
    by true h = record { is_finite = unfold finite in refl; of-y = below-most (fin s m e) nought h; of-0 = self nought (unfold finite in refl) }
    by false h = record { is_finite = f; of-y = self (fin s m e) f; of-0 = not-below-most s m e false 0 (pos 0) h }

part-most : (x y z : Float) → Part x y → Larger y z → (x ≼ z) ≡ true
part-most x y z (rising h k) l = most-through x y z k l.of-y
part-most x y z (falling h k) l = most-through x nought z k l.of-0

-- ---- the smaller of y and 0

record Smaller (y z : Float) : Type 0 where
  is_finite : finite z ≡ true
  of-y : (z ≼ y) ≡ true
  of-0 : (z ≼ nought) ≡ true

is-smaller : (y : Float) → finite y ≡ true → Smaller y (fmin y nought)
is-smaller nan f = absurd (false≢true (unfold finite in f))
is-smaller (inf s) f = absurd (false≢true (unfold finite in f))
is-smaller (fin s m e) f = unfold fmin is_nan in by (nought ≺ fin s m e) refl
  where
    by : (t : Bool) → (nought ≺ fin s m e) ≡ t → Smaller (fin s m e) (cond t nought (fin s m e))
    by true h = record { is_finite = unfold finite in refl; of-y = below-most nought (fin s m e) h; of-0 = self nought (unfold finite in refl) }
    by false h = record { is_finite = f; of-y = self (fin s m e) f; of-0 = not-below-most false 0 (pos 0) s m e h }

part-least : (x y z : Float) → Part x y → Smaller y z → (z ≼ x) ≡ true
part-least x y z (rising h k) l = most-through z nought x l.of-0 h
part-least x y z (falling h k) l = most-through z y x l.of-y h

-- ---- a sum left of x

nothing-below : (x : Float) → (x ≺ inf true) ≡ false
unfolding lt
nothing-below nan = refl
nothing-below (inf true) = refl
nothing-below (inf false) = refl
nothing-below (fin s m e) = refl

nothing_above : (x : Float) → (inf false ≺ x) ≡ false
unfolding lt
nothing_above nan = refl
nothing_above (inf s) = refl
nothing_above (fin s m e) = refl

pub below_nan : (x : Float) → (x ≺ nan) ≡ false
unfolding lt
below_nan nan = refl
below_nan (inf true) = refl
below_nan (inf false) = refl
below_nan (fin s m e) = refl

left-of : (r z c right x : Float) → finite r ≡ true → finite z ≡ true → (r ≼ z) ≡ true → (z ⊕ c ≼ right) ≡ true → (right ≺ x) ≡ true → (x ≺ r ⊕ c) ≡ false
left-of nan z c right x f g h k l = absurd (false≢true (unfold finite in f))
left-of (inf s) z c right x f g h k l = absurd (false≢true (unfold finite in f))
left-of (fin s m e) nan c right x f g h k l = absurd (false≢true (unfold finite in g))
left-of (fin s m e) (inf t) c right x f g h k l = absurd (false≢true (unfold finite in g))
left-of (fin s m e) (fin t n d) nan right x f g h k l = absurd (false≢true (unfold add le lt eq in k))
left-of (fin s m e) (fin t n d) (inf true) right x f g h k l = unfold add in nothing-below x
left-of (fin s m e) (fin t n d) (inf false) right x f g h k l = absurd (false≢true (sym (nothing_above x) ∙ through-below (inf false) right x (unfold add in k) l))
left-of (fin s m e) (fin t n d) (fin u o c) right x f g h k l =
    let w = through-below (fin t n d ⊕ fin u o c) right x k l in
    below-not-below (fin s m e ⊕ fin u o c) x (through-below (fin s m e ⊕ fin u o c) (fin t n d ⊕ fin u o c) x (add_most s m e t n d h u o c) w)

-- ---- a sum right of x

right_of : (r z c left x : Float) → finite r ≡ true → finite z ≡ true → (z ≼ r) ≡ true → (left ≼ z ⊕ c) ≡ true → (x ≺ left) ≡ true → (x ≺ r ⊕ c) ≡ true
right_of nan z c left x f g h k l = absurd (false≢true (unfold finite in f))
right_of (inf s) z c left x f g h k l = absurd (false≢true (unfold finite in f))
right_of (fin s m e) nan c left x f g h k l = absurd (false≢true (unfold finite in g))
right_of (fin s m e) (inf t) c left x f g h k l = absurd (false≢true (unfold finite in g))
right_of (fin s m e) (fin t n d) nan left x f g h k l =
    let w : (x ≺ nan) ≡ true = below-through x left nan l (unfold add in k) in
    absurd (false≢true (sym (below_nan x) ∙ w))
right_of (fin s m e) (fin t n d) (inf u) left x f g h k l = unfold add in below-through x left (inf u) l (unfold add in k)
right_of (fin s m e) (fin t n d) (fin u o c) left x f g h k l =
    below-through x (fin t n d ⊕ fin u o c) (fin s m e ⊕ fin u o c) (below-through x left (fin t n d ⊕ fin u o c) l k) (add_most t n d s m e h u o c)

zero_is : 0·0 ≡ nought
unfolding of_bits
zero_is = refl

-- ---- the law

module _ (q a b : Vec2) (right : Float) where
  -- the width of the side, and its height
  abbrev d : Float
  d = b.x ⊖ a.x

  abbrev f : Float
  f = b.y ⊖ a.y

  beyond : finite (d ⊗ f ⊘ f) ≡ true → (fmax (d ⊗ f ⊘ f) 0·0 ⊕ a.x ≼ right) ≡ true → (right ≺ q.x) ≡ true → Part (q.y ⊖ a.y) f → (q.x ≺ d ⊗ (q.y ⊖ a.y) ⊘ f ⊕ a.x) ≡ false
  beyond h k l p =
      let r = d ⊗ (q.y ⊖ a.y) ⊘ f in
      let w = d ⊗ f ⊘ f in
      let i = part-quotient d f (q.y ⊖ a.y) (operands d f h) h p in
      let j = larger w h in
      left-of r (fmax w nought) a.x right q.x (part-finite r w h i) j.is_finite (part-most r w (fmax w nought) i j) (rw zero_is at k) l

module _ (q a b : Vec2) (left : Float) where
  short : finite (d q a b left ⊗ f q a b left ⊘ f q a b left) ≡ true → (left ≼ fmin (d q a b left ⊗ f q a b left ⊘ f q a b left) 0·0 ⊕ a.x) ≡ true → (q.x ≺ left) ≡ true
      → Part (q.y ⊖ a.y) (f q a b left) → (q.x ≺ d q a b left ⊗ (q.y ⊖ a.y) ⊘ f q a b left ⊕ a.x) ≡ true
  short h k l p =
      let r = d q a b left ⊗ (q.y ⊖ a.y) ⊘ f q a b left in
      let w = d q a b left ⊗ f q a b left ⊘ f q a b left in
      let i = part-quotient (d q a b left) (f q a b left) (q.y ⊖ a.y) (operands (d q a b left) (f q a b left) h) h p in
      let j = is-smaller w h in
      right_of r (fmin w nought) a.x left q.x (part-finite r w h i) j.is_finite (part-least r w (fmin w nought) i j) (rw zero_is at k) l

-- Where the quotient is finite, so are the width, the height and the ends' heights, and the height is not zero.
pub crosses-left : (q a b : Vec2) (right : Float)
    → finite ((b.x ⊖ a.x) ⊗ (b.y ⊖ a.y) ⊘ (b.y ⊖ a.y)) ≡ true
    → (fmax ((b.x ⊖ a.x) ⊗ (b.y ⊖ a.y) ⊘ (b.y ⊖ a.y)) 0·0 ⊕ a.x ≼ right) ≡ true
    → (right ≺ q.x) ≡ true
    → crosses q (record { from = a; to = b }) ≡ false
unfolding crosses
crosses-left q a b right h k l = by (q.y ≺ a.y) refl (q.y ≺ b.y) refl
  where
    ends : finite (b.y ⊖ a.y) ≡ true
    ends = divisor (b.x ⊖ a.x) (b.y ⊖ a.y) (operands (b.x ⊖ a.x) (b.y ⊖ a.y) h)

    by : (s : Bool) → (q.y ≺ a.y) ≡ s → (t : Bool) → (q.y ≺ b.y) ≡ t → (not (beq s t) && (q.x ≺ (b.x ⊖ a.x) ⊗ (q.y ⊖ a.y) ⊘ (b.y ⊖ a.y) ⊕ a.x)) ≡ false
    by true e true g = refl
    by false e false g = refl
    by true e false g = beyond q a b right h k l (part-falling q.y a.y b.y (second b.y a.y ends) (first b.y a.y ends) e g)
    by false e true g = beyond q a b right h k l (part-rising q.y a.y b.y (second b.y a.y ends) (first b.y a.y ends) e g)

-- a side that lies to the right of the point is crossed where its ends lie above and below it
pub crosses-right : (q a b : Vec2) (left : Float)
    → finite ((b.x ⊖ a.x) ⊗ (b.y ⊖ a.y) ⊘ (b.y ⊖ a.y)) ≡ true
    → (left ≼ fmin ((b.x ⊖ a.x) ⊗ (b.y ⊖ a.y) ⊘ (b.y ⊖ a.y)) 0·0 ⊕ a.x) ≡ true
    → (q.x ≺ left) ≡ true
    → crosses q (record { from = a; to = b }) ≡ not (beq (q.y ≺ a.y) (q.y ≺ b.y))
unfolding crosses
crosses-right q a b left h k l = by (q.y ≺ a.y) refl (q.y ≺ b.y) refl
  where
    ends : finite (b.y ⊖ a.y) ≡ true
    ends = divisor (b.x ⊖ a.x) (b.y ⊖ a.y) (operands (b.x ⊖ a.x) (b.y ⊖ a.y) h)

    by : (s : Bool) → (q.y ≺ a.y) ≡ s → (t : Bool) → (q.y ≺ b.y) ≡ t → (not (beq s t) && (q.x ≺ (b.x ⊖ a.x) ⊗ (q.y ⊖ a.y) ⊘ (b.y ⊖ a.y) ⊕ a.x)) ≡ not (beq s t)
    by true e true g = refl
    by false e false g = refl
    by true e false g = short q a b left h k l (part-falling q.y a.y b.y (second b.y a.y ends) (first b.y a.y ends) e g)
    by false e true g = short q a b left h k l (part-rising q.y a.y b.y (second b.y a.y ends) (first b.y a.y ends) e g)

-- a side whose ends are of one height is never crossed, and no height parts them
pub level-together : (q a b : Vec2) → (a.y ≼ b.y) ≡ true → (b.y ≼ a.y) ≡ true → not (beq (q.y ≺ a.y) (q.y ≺ b.y)) ≡ false
level-together q a b h k = by (q.y ≺ a.y) refl (q.y ≺ b.y) refl
  where
    by : (s : Bool) → (q.y ≺ a.y) ≡ s → (t : Bool) → (q.y ≺ b.y) ≡ t → not (beq s t) ≡ false
    by true e true g = refl
    by false e false g = refl
    by true e false g = absurd (true≢false (sym (below-through q.y a.y b.y e h) ∙ g))
    by false e true g = absurd (true≢false (sym (below-through q.y b.y a.y g k) ∙ e))

pub crosses-level : (q a b : Vec2) → (a.y ≼ b.y) ≡ true → (b.y ≼ a.y) ≡ true → crosses q (record { from = a; to = b }) ≡ false
unfolding crosses
crosses-level q a b h k = rw (level-together q a b h k)
