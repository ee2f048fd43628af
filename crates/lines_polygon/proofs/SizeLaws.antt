-- How large a sum, and a side's run, can be: rounding leads to no more than a bound that is a float. Assumes nothing.
use mathlib.Core.Path.{◌≡◌, refl, sym, ap, ◌∙◌, subst}
use mathlib.Core.Bool.{Bool, true, false, not, ◌&&◌, true≢false, false≢true}
use mathlib.Core.Logic.{◌⊎◌, inl, inr}
use Prim.Native.Nat.{ℕ, zero, suc, ◌+◌, ◌-◌, ◌*◌, ◌%◌, ◌^◌, ◌≤◌, ◌<◌}
use native.Mathlib.Nat.{mul-one, one-mul, mul_comm, lt_of_lt_of_le, mul-pos, zero-lt-suc, mul-le-mul_right, le_of_mul-le-mul_right, le_trans, lt_of_le_of_lt, lt_irrefl}
use native.Mathlib.Omega.{arith}
use lib.IntN.{ℤ, pos, negsuc}
use lib.Dec.{T, ltb, leb, eqb, eqb→eq, ltb→lt, leb→le, lit≤, lit<}
use lib.Pow.{pow-add, pow_pos, pow-lt}
use lib.Ieee.{Float, nan, inf, fin, binary64, unlike, up, down, round, neg, add, sub, mul, lt, le, eq, fits}
use lib.Ieee.Fits.{up_pos, down_pos, and_l, and_r}
use lib.Ieee.Exact.{HasValue, round_exact}
use lib.Ieee.Back.{round_whole}
use lib.Ieee.Order.{round_mono}
use lib.Ieee.Positive.{positive, above, above_of_le, positive_of_value}
use Rattle.arith.specs.F64.{◌⊕◌, ◌⊖◌, ◌⊗◌, ◌⊘◌, ◌≼◌}
use Rattle.arith.proofs.RecordLaws.{lt-or-ge}
use Rattle.lines_polygon.proofs.OrderLaws.{plus, minus, AtMost, at-most-true, at-most-is, plus-by, minus-by}
use Rattle.lines_polygon.proofs.CrossLaws.{nought, round-neg, round-plus, not-less, sum-rounded, div_is}

-- ---- a size of at most a / c

abbrev pub Sized : Float → ℕ → ℕ → Type 0
Sized nan a c = ⊥
Sized (inf s) a c = ⊥
Sized (fin s m e) a c = m * up e * c ≤ a * down e

sized-neg : (x : Float) (a c : ℕ) → Sized x a c → Sized (neg x) a c
unfolding neg
sized-neg nan a c h = h
sized-neg (inf s) a c h = h
sized-neg (fin s m e) a c h = h

-- between 0 and a float of the size
le-sized : (x y : Float) (a c : ℕ) → (nought ≼ x) ≡ true → (x ≼ y) ≡ true → HasValue y false a c → Sized x a c
unfolding le lt eq
le-sized nan y a c h k v = absurd (false≢true h)
le-sized (inf true) y a c h k v = absurd (false≢true h)
le-sized (inf false) nan a c h k v = absurd v
le-sized (inf false) (inf t) a c h k v = absurd v
le-sized (inf false) (fin t n d) a c h k v = absurd (false≢true k)
le-sized (fin s m e) nan a c h k v = absurd v
le-sized (fin s m e) (inf t) a c h k v = absurd v
le-sized (fin s m e) (fin true n d) a c h k v = absurd (true≢false v.0)
le-sized (fin true m e) (fin false n d) a c h k v = let i = at-most-true (0 * 1 * down e) (m * up e * 1) false true h in omega (arith, mul-le-mul_right c i)
le-sized (fin false m e) (fin false n d) a c h k v =
    let i = at-most-true (m * up e * down d) (n * up d * down e) false false k in
    le_of_mul-le-mul_right {k = down d} (omega (arith, mul-le-mul_right c i, ap (λ (z : ℕ). z * down e) v.1)) (down_pos d)

-- what holds of a float and of its negative
either-sign : (P : Float → Type 0) → ((x : Float) → P x → P (neg x)) → (s : Bool) (a c : ℕ) → P (round binary64 false a c) → P (round binary64 s a c)
either-sign P n false a c h = h
either-sign P n true a c h = subst P (sym (round-neg a c)) (n (round binary64 false a c) h)

-- a fraction of at most that size, rounded
round-sized : (s : Bool) (a c b d : ℕ) → 0 < c → 0 < d → HasValue (round binary64 false b d) false b d → a * d ≤ b * c → Sized (round binary64 s a c) b d
round-sized s a c b d C D v h =
    either-sign (λ (x : Float). Sized x b d) (λ x i. sized-neg x b d i) s a c
    (le-sized (round binary64 false a c) (round binary64 false b d) b d (not-less a c C) (round-plus a c b d C D h) v)

-- ---- sums

sum-size : (s t r : Bool) (a b n : ℕ) → plus r n + (minus s a + minus t b) ≡ minus r n + (plus s a + plus t b) → n ≤ a + b
sum-size false false false a b n h = omega arith
sum-size false false true a b n h = omega arith
sum-size false true false a b n h = omega arith
sum-size false true true a b n h = omega arith
sum-size true false false a b n h = omega arith
sum-size true false true a b n h = omega arith
sum-size true true false a b n h = omega arith
sum-size true true true a b n h = omega arith

pub add-sized : (x y : Float) (j k : ℕ) → j + k ≤ 2 ^ 53 → Sized x j 1 → Sized y k 1 → Sized (x ⊕ y) (j + k) 1
unfolding add
add-sized nan y j k l h i = absurd h
add-sized (inf s) y j k l h i = absurd h
add-sized (fin s m e) nan j k l h i = absurd i
add-sized (fin s m e) (inf t) j k l h i = absurd i
add-sized (fin s m e) (fin t n d) j k l h i =
    let a = m * up e * down d in
    let b = n * up d * down e in
    let c = down e * down d in
    let r = sum-rounded a b c s t in
    let w : r.size ≤ a + b = sum-size s t r.sign a b r.size r.value in
    subst (λ (x : Float). Sized x (j + k) 1) (sym r.is)
    (round-sized r.sign r.size c (j + k) 1 (mul-pos (down_pos e) (down_pos d)) (zero-lt-suc 0) (round_whole binary64 false (j + k) l)
    (omega (arith, w, mul-le-mul_right (down d) h, mul-le-mul_right (down e) i)))

pub sub-sized : (x y : Float) (j k : ℕ) → j + k ≤ 2 ^ 53 → Sized x j 1 → Sized y k 1 → Sized (x ⊖ y) (j + k) 1
unfolding sub
sub-sized x y j k l h i = add-sized x (neg y) j k l h (sized-neg y k 1 i)

-- ---- a float that fits is a number of smallest floats

record Scale (e : ℤ) : Type 0 where
  power : ℕ
  is : up e * 2 ^ 1074 ≡ 2 ^ power * down e

scaled : (e : ℤ) → down e ≤ 2 ^ 1074 → Scale e
scaled (pos k) h = record { power = k + 1074; is = sym (pow-add 2 k 1074) ∙ sym (mul-one (2 ^ (k + 1074))) }
scaled (negsuc k) h = by (lt-or-ge 1074 (suc k))
  where
    by : (1074 < suc k) ⊎ (suc k ≤ 1074) → Scale (negsuc k)
    by (inl l) = absurd (lt_irrefl (2 ^ 1074) (lt_of_lt_of_le (pow-lt l) h))
    by (inr l) =
        let e : 1074 - suc k + suc k ≡ 1074 = omega arith in
        record { power = 1074 - suc k; is = one-mul (2 ^ 1074) ∙ ap (λ (z : ℕ). 2 ^ z) (sym e) ∙ pow-add 2 (1074 - suc k) (suc k) }

fits-down : (s : Bool) (m : ℕ) (e : ℤ) → T (fits binary64 (fin s m e)) → down e ≤ 2 ^ 1074
unfolding fits
fits-down s zero e t =
    let one : down e ≤ 1 = below_one (up e) (down e) (up_pos e) (eqb→eq (up e * down e) 1 t) in
    le_trans one (lit≤ tt)
  where
    below_one : (u d : ℕ) → 0 < u → u * d ≡ 1 → d ≤ 1
    below_one u d h e = let k : 1 * d ≤ u * d = mul-le-mul_right d h in omega (arith, k)
fits-down s (suc m) e t =
    let a : Bool = eqb (suc m % 2) 1 && ltb (suc m) (2 ^ 53) in
    let b : Bool = leb (down e) (2 ^ 1074) in
    leb→le (down e) (2 ^ 1074) (and_r a b (and_l (a && b) (ltb (suc m * up e) (2 ^ 1024 * down e)) t))

fits-digits : (s : Bool) (m : ℕ) (e : ℤ) → T (fits binary64 (fin s (suc m) e)) → suc m < 2 ^ 53
unfolding fits
fits-digits s m e t =
    let a : Bool = eqb (suc m % 2) 1 in
    let b : Bool = ltb (suc m) (2 ^ 53) in
    let c : Bool = leb (down e) (2 ^ 1074) in
    ltb→lt (suc m) (2 ^ 53) (and_r a b (and_l (a && b) c (and_l (a && b && c) (ltb (suc m * up e) (2 ^ 1024 * down e)) t)))

-- ---- the difference of two floats that fit is 0 only where they are equal

-- a difference of multiples of c
gap : (x p q c : ℕ) → x + q * c ≡ p * c → 0 < x → c ≤ x
gap x p q c e h = by (lt-or-ge q p)
  where
    by : (q < p) ⊎ (p ≤ q) → c ≤ x
    by (inl l) = let k : (1 + q) * c ≤ p * c = mul-le-mul_right c (omega (arith, l)) in omega (arith, k)
    by (inr l) = let k : p * c ≤ q * c = mul-le-mul_right c l in absurd (omega (arith, k))

least : (s t r : Bool) (a b n c l i j : ℕ) → 0 < l → a * l ≡ i * c → b * l ≡ j * c → plus r n + (minus s a + minus t b) ≡ minus r n + (plus s a + plus t b) → 0 < n → c ≤ n * l
least s t r a b n c l i j L ea eb v h = by r v
  where
    p : (plus s a + plus t b) * l ≡ (plus s i + plus t j) * c
    p = omega (arith, plus-by s a l, plus-by t b l, plus-by s i c, plus-by t j c, ap (plus s) ea, ap (plus t) eb)

    q : (minus s a + minus t b) * l ≡ (minus s i + minus t j) * c
    q = omega (arith, minus-by s a l, minus-by t b l, minus-by s i c, minus-by t j c, ap (minus s) ea, ap (minus t) eb)

    by : (r : Bool) → plus r n + (minus s a + minus t b) ≡ minus r n + (plus s a + plus t b) → c ≤ n * l
    by false v = gap (n * l) (plus s i + plus t j) (minus s i + minus t j) c (omega (arith, p, q, ap (λ (z : ℕ). z * l) v)) (mul-pos h L)
    by true v = gap (n * l) (minus s i + minus t j) (plus s i + plus t j) c (omega (arith, p, q, ap (λ (z : ℕ). z * l) v)) (mul-pos h L)

-- a float other than 0
abbrev pub Nonzero : Float → Type 0
Nonzero nan = Unit
Nonzero (inf s) = Unit
Nonzero (fin s m e) = 0 < m

nonzero-neg : (x : Float) → Nonzero x → Nonzero (neg x)
unfolding neg
nonzero-neg nan h = h
nonzero-neg (inf s) h = h
nonzero-neg (fin s m e) h = h

above-nonzero : (x : Float) → T (above x) → Nonzero x
above-nonzero nan h = absurd h
above-nonzero (inf s) h = tt
above-nonzero (fin true m e) h = absurd h
above-nonzero (fin false m e) h = ltb→lt 0 m h

smallest : T (positive (round binary64 false 1 (2 ^ 1074)))
smallest =
    positive_of_value (round binary64 false 1 (2 ^ 1074)) 1 (2 ^ 1074)
    (round_exact binary64 false 1 (2 ^ 1074) 1 0 (pow_pos 1074) (lit< tt) (lit< tt) refl) (zero-lt-suc 0)

round-nonzero : (s : Bool) (a c : ℕ) → 0 < c → c ≤ a * 2 ^ 1074 → Nonzero (round binary64 s a c)
round-nonzero s a c C h =
    either-sign Nonzero nonzero-neg s a c
    (above-nonzero (round binary64 false a c)
    (above_of_le (round binary64 false 1 (2 ^ 1074)) (round binary64 false a c) smallest
    (round_mono binary64 1 (2 ^ 1074) a c (pow_pos 1074) C (subst (λ (z : ℕ). z ≤ a * 2 ^ 1074) (sym (one-mul c)) h))))

not_none : (n : ℕ) → (n ≡ 0 → ⊥) → 0 < n
not_none zero h = absurd (h refl)
not_none (suc n) h = zero-lt-suc n

-- equal where the difference is nothing
level-most : (t u : Bool) (a b : ℕ) → minus t a + minus (not u) b ≡ plus t a + plus (not u) b → AtMost u b t a × AtMost t a u b
level-most false false a b h = (omega arith, omega arith)
level-most false true a b h = (omega arith, omega arith)
level-most true false a b h = (omega arith, omega arith)
level-most true true a b h = (omega arith, omega arith)

pub sub-nonzero : (x y : Float) → T (fits binary64 x) → T (fits binary64 y) → ((y ≼ x) ≡ true → (x ≼ y) ≡ true → ⊥) → Nonzero (x ⊖ y)
unfolding sub add neg
sub-nonzero nan y f g k = tt
sub-nonzero (inf s) nan f g k = tt
sub-nonzero (inf true) (inf true) f g k = tt
sub-nonzero (inf true) (inf false) f g k = tt
sub-nonzero (inf false) (inf true) f g k = tt
sub-nonzero (inf false) (inf false) f g k = tt
sub-nonzero (inf s) (fin u o g') f g k = tt
sub-nonzero (fin t n d) nan f g k = tt
sub-nonzero (fin t n d) (inf u) f g k = tt
sub-nonzero (fin t n d) (fin u o e) f g k =
    let a = n * up d * down e in
    let b = o * up e * down d in
    let c = down d * down e in
    let r = sum-rounded a b c t (not u) in
    let i = scaled d (fits-down t n d f) in
    let j = scaled e (fits-down u o e g) in
    let some : 0 < r.size =
    not_none r.size (λ z. let w = level-most t u a b (nothing r.sign r.size z r.value) in k (unfold le lt eq in at-most-is b a u t w.0) (unfold le lt eq in at-most-is a b t u w.1)) in
    subst Nonzero (sym r.is)
    (round-nonzero r.sign r.size c (mul-pos (down_pos d) (down_pos e))
    (least t (not u) r.sign a b r.size c (2 ^ 1074) (n * 2 ^ i.power) (o * 2 ^ j.power) (pow_pos 1074) (multiple n (up d) (down e) (2 ^ 1074) (2 ^ i.power) (down d) i.is)
    (multiple o (up e) (down d) (2 ^ 1074) (2 ^ j.power) (down e) j.is ∙ mul_comm _ _ ∙ ap (λ (z : ℕ). z * (o * 2 ^ j.power)) (mul_comm (down e) (down d)) ∙ mul_comm _ _) r.value some))
  where
    nothing : (r : Bool) (n : ℕ) {p q : ℕ} → n ≡ 0 → plus r n + q ≡ minus r n + p → q ≡ p
    nothing true n z v = omega arith
    nothing false n z v = omega arith

    multiple : (n u e l p d : ℕ) → u * l ≡ p * d → n * u * e * l ≡ n * p * (d * e)
    multiple n u e l p d h = omega (arith, ap (λ (z : ℕ). z * (n * e)) h)

-- ---- the run

-- 2^21 times a float of at most that size
far-exact : (n : ℕ) (g : ℤ) → suc n < 2 ^ 53 → Scale g → suc n * up g * 1 ≤ 2 ^ 21 * down g
    → HasValue (round binary64 false (2 ^ 21 * (suc n * up g)) (down g)) false (2 ^ 21 * (suc n * up g)) (down g)
far-exact n g few k h =
    let j = 21 + k.power in
    let e : 2 ^ 21 * (suc n * up g) * 2 ^ 1074 ≡ suc n * 2 ^ j * down g =
    turned (2 ^ 21) (suc n) (up g) (2 ^ 1074) (2 ^ k.power) (down g) k.is ∙ ap (λ (z : ℕ). suc n * z * down g) (sym (pow-add 2 21 k.power)) in
    round_exact binary64 false (2 ^ 21 * (suc n * up g)) (down g) (suc n) j (down_pos g) few
    (lt_of_le_of_lt (under (2 ^ 21) (suc n) (up g) (2 ^ 1074) (2 ^ j) (down g) (down_pos g) e h) (lit< tt)) e
  where
    turned : (f n u l p d : ℕ) → u * l ≡ p * d → f * (n * u) * l ≡ n * (f * p) * d
    turned f n u l p d h = omega (arith, ap (λ (z : ℕ). z * (f * n)) h)

    under : (f n u l p d : ℕ) → 0 < d → f * (n * u) * l ≡ n * p * d → n * u * 1 ≤ f * d → n * p ≤ f * f * l
    under f n u l p d D e h = le_of_mul-le-mul_right {k = d} (omega (arith, e, mul-le-mul_right (f * l) h)) D

pub run-sized : (d f : Float) → T (fits binary64 f) → Nonzero f → Sized d (2 ^ 21) 1 → Sized f (2 ^ 21) 1 → Sized (d ⊗ f ⊘ f) (2 ^ 21) 1
run-sized nan f t z h i = absurd h
run-sized (inf s) f t z h i = absurd h
run-sized (fin s m e) nan t z h i = absurd i
run-sized (fin s m e) (inf u) t z h i = absurd i
run-sized (fin s m e) (fin u zero g) t z h i = absurd (lt_irrefl 0 z)
run-sized (fin s m e) (fin u (suc n) g) t z h i =
    quotient (fin s m e ⊗ fin u (suc n) g)
    (unfold mul in round-sized (unlike s u) (m * up e * (suc n * up g)) (down e * down g) (2 ^ 21 * (suc n * up g)) (down g) (mul-pos (down_pos e) (down_pos g)) (down_pos g)
    (far-exact n g (fits-digits u n g t) (scaled g (fits-down u (suc n) g t)) i) (omega (arith, mul-le-mul_right (suc n * up g * down g) h)))
  where
    quotient : (x : Float) → Sized x (2 ^ 21 * (suc n * up g)) (down g) → Sized (x ⊘ fin u (suc n) g) (2 ^ 21) 1
    quotient nan h = absurd h
    quotient (inf v) h = absurd h
    quotient (fin v p k) h =
        subst (λ (x : Float). Sized x (2 ^ 21) 1) (sym (div_is v p k u n g))
        (round-sized (unlike v u) (p * up k * down g) (suc n * up g * down k) (2 ^ 21) 1 (mul-pos (mul-pos (zero-lt-suc n) (up_pos g)) (down_pos k)) (zero-lt-suc 0) (round_whole binary64 false (2 ^ 21) (lit≤ tt)) (omega (arith, h)))
