-- `root x` is the square root of x, the f64 nearest to the exact root of a finite x above 0, and no other f64 is. Assumes nothing.
use mathlib.Core.Path.{◌≡◌, refl, sym, ap, ◌∙◌, subst}
use mathlib.Core.Logic.{⊎_elim}
use Prim.Native.Nat.{ℕ, zero, suc, ◌+◌, ◌-◌, ◌*◌, ◌/◌, ◌%◌, ◌^◌, ◌≤◌, ◌<◌, zero-le}
use native.Mathlib.Nat.{le_antisymm, lt_trans, add_comm, add-mul, mul_assoc, mul_left_comm, mul-one, zero-mul, mul-le-mul, mul-le-mul_right, mul-le-mul_left, mul-lt-mul_of_pos_right, mul-pos, lt_of_mul-lt-mul_right, le_of_suc-le-suc, lt_of_not-le, not-le_of_lt, lt_of_lt_of_le, lt_of_le_of_lt, le_trans, le_of_lt, eq-or-lt_of_le}
use native.Mathlib.Omega.{arith}
use mathlib.Core.Bool.{Bool, true, false, ◌&&◌, true≢false}
use lib.IntN.{ℤ, pos, negsuc}
use lib.Dec.{T, eqb, leb, ltb, ltb→lt, leb→le, lit<}
use lib.Ieee.{Float, nan, inf, fin, binary64, up, down, lt, odd, fits, of_bits, to_bits}
use lib.Ieee.Fits.{and_l, and_r}
use lib.Ieee.Bits.{of_bits-to_bits, to_bits-lt, of_bits-fits}
use borrow.Author.Tests.{lt-ltb}
use Rattle.arith_root.specs.Root.{mag, root, plus, Nearest, SquareRoot, isqrt}
use Rattle.arith_whole_root.specs.Whole.{WholeRoot}
use Rattle.arith_root.specs.Ensures.{units_of, UnpackExit}
use Rattle.arith_root.proofs.Cases.{nought, some-above, equals→mag, mag-odd, mag-bits, plus-top, some_bits, root-above}
use Rattle.arith_root.proofs.Fields.{unpack-0, unpack-1}
use Rattle.arith_root.proofs.Pack.{wide, wide-in, in-108, units-are, square-is, rounded-is, packed, q-low}
use lib.Pow.{pow-add, pow_mono, pow_pos, shl_lt}
use Rattle.arith_whole_root.proofs.Steps.{square-sum}
use Rattle.arith_root.proofs.Whole.{four, isqrt-is}

-- ---- the midpoints of the kept digits p = (q + 1) / 2, in halves: 2p - 1 and 2p + 1

odd-square : (u : ℕ) → (2 * u + 1) * (2 * u + 1) ≡ 4 * (u * u + u) + 1
odd-square u = omega (arith, square-sum (2 * u) 1, four u)

even-below : (u v : ℕ) → 1 ≤ u → 2 * u * (2 * u) ≤ 2 * v → (2 * u - 1) * (2 * u - 1) < 2 * v
even-below zero v l h = absurd (omega arith)
even-below (suc u) v l h =
    let e : 2 * suc u - 1 ≡ 2 * u + 1 = omega arith in
    let f : 2 * suc u ≡ 2 * u + 1 + 1 = omega arith in
    let g : (2 * u + 1 + 1) * (2 * u + 1 + 1) ≤ 2 * v = subst (λ (x : ℕ). x * x ≤ 2 * v) f h in
    rw e (omega (arith, square-sum (2 * u + 1) 1))

odd-below : (u v : ℕ) → (2 * u + 1) * (2 * u + 1) ≤ 2 * v → (2 * u + 1) * (2 * u + 1) < 2 * v
odd-below u v h = omega (arith, odd-square u)

pub mid-below : (q v : ℕ) → 2 ≤ q → q * q ≤ 2 * v → (2 * ((q + 1) / 2) - 1) * (2 * ((q + 1) / 2) - 1) < 2 * v
mid-below q v l h = go (q % 2) refl
  where
    go : (r : ℕ) → q % 2 ≡ r → (2 * ((q + 1) / 2) - 1) * (2 * ((q + 1) / 2) - 1) < 2 * v
    go zero e =
        let a : q ≡ 2 * (q / 2) = omega arith in
        let b : (q + 1) / 2 ≡ q / 2 = omega arith in
        rw b (even-below (q / 2) v (omega arith) (subst (λ (x : ℕ). x * x ≤ 2 * v) a h))
    go (suc r) e =
        let a : q ≡ 2 * (q / 2) + 1 = omega arith in
        let b : 2 * ((q + 1) / 2) - 1 ≡ 2 * (q / 2) + 1 = omega arith in
        rw b (odd-below (q / 2) v (subst (λ (x : ℕ). x * x ≤ 2 * v) a h))

pub mid-above : (q n : ℕ) → n < (q + 1) * (q + 1) → n < (2 * ((q + 1) / 2) + 1) * (2 * ((q + 1) / 2) + 1)
mid-above q n h = lt_of_lt_of_le h (mul-le-mul {n₁ = q + 1} {m₁ = q + 1} {n₂ = 2 * ((q + 1) / 2) + 1} {m₂ = 2 * ((q + 1) / 2) + 1} (omega arith) (omega arith))

-- ---- squares of multiples of t

sq-scale : (a t : ℕ) → a * t * (a * t) ≡ a * a * (t * t)
sq-scale a t = simp (mul_assoc, mul_left_comm)

-- ---- a number with at most 53 digits before its zeros, from 2 ^ 52 * 2 ^ j on, is a multiple of 2 ^ j

wide_enough : (m w j : ℕ) → m < 2 ^ 53 → 2 ^ 52 * 2 ^ j ≤ m * 2 ^ w → j ≤ w
wide_enough m w j s h =
    le_of_suc-le-suc (lt_of_not-le (λ (g : suc w ≤ j).
    let a : m * 2 ^ w < 2 ^ (53 + w) = shl_lt 53 w s in
    let b : 2 ^ (53 + w) ≤ 2 ^ (52 + j) = pow_mono {i = 53 + w} {j = 52 + j} (omega arith) in
    let c : 2 ^ (52 + j) ≡ 2 ^ 52 * 2 ^ j = pow-add 2 52 j in
    not-le_of_lt (lt_of_lt_of_le a b) (subst (λ (x : ℕ). x ≤ m * 2 ^ w) (sym c) h)))

multiple : (m w j : ℕ) → j ≤ w → m * 2 ^ w ≡ m * 2 ^ (w - j) * 2 ^ j
multiple m w j h =
    let e : w ≡ w - j + j = omega arith in
    ap (λ (x : ℕ). m * 2 ^ x) e ∙ ap (λ (x : ℕ). m * x) (pow-add 2 (w - j) j) ∙ sym (mul_assoc m (2 ^ (w - j)) (2 ^ j))

-- so the neighbours of p * 2 ^ j among such numbers, for a p from 2 ^ 52 on, are a whole 2 ^ j away; below, where p is above 2 ^ 52
module _ (m w j p : ℕ) (small : m < 2 ^ 53) where
  next-above : 2 ^ 52 ≤ p → p * 2 ^ j < m * 2 ^ w → (p + 1) * 2 ^ j ≤ m * 2 ^ w
  next-above l h =
      let t = mul-le-mul_right (2 ^ j) l in
      let e = multiple m w j (wide_enough m w j small (le_trans t (le_of_lt h))) in
      let c = m * 2 ^ (w - j) in
      let g : p < c = lt_of_mul-lt-mul_right (2 ^ j) (subst (λ (x : ℕ). p * 2 ^ j < x) e h) in
      subst (λ (x : ℕ). (p + 1) * 2 ^ j ≤ x) (sym e) (mul-le-mul_right (2 ^ j) (omega arith))

  next-below : 2 ^ 52 < p → m * 2 ^ w < p * 2 ^ j → m * 2 ^ w ≤ (p - 1) * 2 ^ j
  next-below l h =
      le_of_suc-le-suc (lt_of_not-le (λ (g : (p - 1) * 2 ^ j < m * 2 ^ w).
      let t : 2 ^ 52 * 2 ^ j ≤ (p - 1) * 2 ^ j = mul-le-mul_right (2 ^ j) (omega arith) in
      let e = multiple m w j (wide_enough m w j small (le_trans t (le_of_lt g))) in
      let c = m * 2 ^ (w - j) in
      let u : p - 1 < c = lt_of_mul-lt-mul_right (2 ^ j) (subst (λ (x : ℕ). (p - 1) * 2 ^ j < x) e g) in
      let v : c < p = lt_of_mul-lt-mul_right (2 ^ j) (subst (λ (x : ℕ). x < p * 2 ^ j) e h) in
      omega arith))

-- ---- which of two is nearer, at r = p * t, for the square n * t * t

sq-lt : (a b : ℕ) → a < b → a * a < b * b
sq-lt a b h = lt_of_le_of_lt (mul-le-mul_left a (le_of_lt h)) (mul-lt-mul_of_pos_right h (lt_of_le_of_lt zero-le h))

sq-le : (a b : ℕ) → a ≤ b → a * a ≤ b * b
sq-le a b h = mul-le-mul h h

far-below : (p t n y : ℕ) → 1 ≤ p → 0 < t → y ≤ (p - 1) * t → (2 * p - 1) * (2 * p - 1) < n → (y + p * t) * (y + p * t) < n * (t * t)
far-below p t n y l z h g =
    let e : 2 * p - 1 ≡ p - 1 + p = omega arith in
    let a : y + p * t ≤ (2 * p - 1) * t = rw (e, add-mul) (omega arith) in
    lt_of_le_of_lt (sq-le (y + p * t) ((2 * p - 1) * t) a) (rw (sq-scale (2 * p - 1) t) (mul-lt-mul_of_pos_right g (mul-pos z z)))

at_edge : (p t n y : ℕ) → y < p * t → 2 * p * (2 * p) ≤ n → (y + p * t) * (y + p * t) < n * (t * t)
at_edge p t n y h g =
    let a : y + p * t < 2 * p * t = rw mul_assoc (omega arith) in
    lt_of_lt_of_le (sq-lt (y + p * t) (2 * p * t) a) (rw (sq-scale (2 * p) t) (mul-le-mul_right (t * t) g))

far-above : (p t n y : ℕ) → 0 < t → (p + 1) * t ≤ y → n < (2 * p + 1) * (2 * p + 1) → n * (t * t) < (y + p * t) * (y + p * t)
far-above p t n y z h g =
    let e : 2 * p + 1 ≡ p + 1 + p = omega arith in
    let a : (2 * p + 1) * t ≤ y + p * t = rw (e, add-mul) (omega arith) in
    lt_of_lt_of_le (subst (λ (x : ℕ). n * (t * t) < x) (sym (sq-scale (2 * p + 1) t)) (mul-lt-mul_of_pos_right g (mul-pos z z))) (sq-le ((2 * p + 1) * t) (y + p * t) a)

-- ---- the size of an f64 that is +0 or above: at most 53 digits, and zeros

abbrev Short : ℕ → Type 0
Short n = (m : ℕ) × (w : ℕ) × (m < 2 ^ 53) × (n ≡ m * 2 ^ w)

short-exp : (s : Bool) (m : ℕ) (e : ℤ) → m < 2 ^ 53 → down e ≤ 2 ^ 1074 → Short (mag (fin s m e))
short-exp s m (pos i) l d =
    (m, i + 1074, l, equals→mag (fin s m (pos i)) (m * 2 ^ (i + 1074)) (mul_assoc m (2 ^ i) (2 ^ 1074) ∙ ap (λ (x : ℕ). m * x) (sym (pow-add 2 i 1074)) ∙ sym (mul-one (m * 2 ^ (i + 1074)))))
short-exp s m (negsuc i) l d =
    let g : suc i ≤ 1074 = le_of_suc-le-suc (lt_of_not-le (λ (k : 1075 ≤ suc i). not-le_of_lt (lit< {m = 2 ^ 1074} {n = 2 ^ 1075} tt) (le_trans (pow_mono k) d))) in
    let e : 1074 ≡ 1074 - suc i + suc i = omega arith in (
      m,
      1074 - suc i,
      l,
      equals→mag (fin s m (negsuc i)) (m * 2 ^ (1074 - suc i))
          (ap (λ (x : ℕ). x * 2 ^ 1074) (mul-one m) ∙ ap (λ (x : ℕ). m * 2 ^ x) e ∙ ap (λ (x : ℕ). m * x) (pow-add 2 (1074 - suc i) (suc i)) ∙ sym (mul_assoc m (2 ^ (1074 - suc i)) (2 ^ suc i))),
    )

short : (y : Float) → T (fits binary64 y) → T (plus y) → Short (mag y)
unfolding fits
short nan f p = absurd p
short (inf s) f p = absurd p
short (fin s zero e) f p = (0, 0, lit< tt, equals→mag (fin s 0 e) (0 * 2 ^ 0) (ap (λ (x : ℕ). x * 2 ^ 1074) (zero-mul (up e)) ∙ sym (zero-mul (down e))))
short (fin s (suc m) e) f p =
    let A = eqb (suc m % 2) 1 in
    let B = ltb (suc m) (2 ^ 53) in
    let C = leb (down e) (2 ^ 1074) in
    let D = ltb (suc m * up e) (2 ^ 1024 * down e) in
    short-exp s (suc m) e (ltb→lt (suc m) (2 ^ 53) (and_r A B (and_l (A && B) C (and_l (A && B && C) D f)))) (leb→le (down e) (2 ^ 1074) (and_r (A && B) C (and_l (A && B && C) D f)))

-- ---- the parts of a pattern

some-parts : (b : ℕ) → 0 < b → b < 0x7ff0_0000_0000_0000 → (a : ℕ) × (h : ℕ) × UnpackExit b a h
some-parts b l u = go (b / 2 ^ 52) refl
  where
    go : (e : ℕ) → b / 2 ^ 52 ≡ e → (a : ℕ) × (h : ℕ) × UnpackExit b a h
    go zero e = (_, _, unpack-0 b l e)
    go (suc n) e = (_, _, unpack-1 b u (λ z. omega arith))

plus-odd : (d q k l : ℕ) → T (plus (odd d false q k l))
unfolding odd
plus-odd d zero k l = tt
plus-odd d (suc q) k l = tt

-- four times the square, in units of 2 ^ j
quadruple : (n k j : ℕ) → j ≡ k + 1 → 4 * (n * 2 ^ (2 * k)) ≡ n * (2 ^ j * 2 ^ j)
quadruple n k j e =
    let f : k + 1 + (k + 1) ≡ 2 * k + 2 = omega arith in
    let g : 2 ^ j * 2 ^ j ≡ 2 ^ (2 * k) * 4 = sym (pow-add 2 j j) ∙ ap (λ (x : ℕ). 2 ^ (x + x)) e ∙ ap (λ (x : ℕ). 2 ^ x) f ∙ pow-add 2 (2 * k) 2 in
    rw g (omega (arith, mul_assoc n (2 ^ (2 * k)) 4))

-- ---- the nearest
module _ (x : Float) (b a h q : ℕ) (S : UnpackExit b a h) (W : WholeRoot (wide a h * 2 ^ 54) q) (size : mag x ≡ units_of b) where
  abbrev p : ℕ
  p = (q + 1) / 2

  abbrev j : ℕ
  j = h / 2 - 1

  abbrev n : ℕ
  n = wide a h * 2 ^ 54

  abbrev r : Float
  r = odd 53 false p j 1074

  square : 4 * (mag x * 2 ^ 1074) ≡ n * (2 ^ j * 2 ^ j)
  square =
      ap (λ (y : ℕ). 4 * (y * 2 ^ 1074)) size
      ∙ ap (λ (y : ℕ). 4 * y) (units-are b a h S ∙ square-is a h (h / 2 - 2) (parts h S.from))
      ∙ quadruple n (h / 2 - 2) j (next h S.from)
    where
      parts : (h : ℕ) → 972 ≤ h → h + 50 ≡ h % 2 + (54 + 2 * (h / 2 - 2))
      parts h l = omega arith

      next : (h : ℕ) → 972 ≤ h → h / 2 - 1 ≡ h / 2 - 2 + 1
      next h l = omega arith

  p-low : 2 ^ 52 ≤ p
  p-low = let l = q-low b a h q S W in omega arith

  mid-1 : (2 * p - 1) * (2 * p - 1) < n
  mid-1 =
      let e : wide a h * 2 ^ 54 ≡ 2 * (wide a h * 2 ^ 53) = omega arith in
      let l = q-low b a h q S W in
      subst (λ (y : ℕ). (2 * p - 1) * (2 * p - 1) < y) (sym e) (mid-below q (wide a h * 2 ^ 53) (omega arith) (subst (λ (y : ℕ). q * q ≤ y) e W.below))

  mid-2 : n < (2 * p + 1) * (2 * p + 1)
  mid-2 = mid-above q n W.above

  edge : p ≡ 2 ^ 52 → 2 * p * (2 * p) ≤ n
  edge e = let w = (wide-in b a h S).0 in rw e (omega arith)

  pub near-below : (y : Float) → T (fits binary64 y) → T (plus y) → mag y < mag r → (mag y + mag r) * (mag y + mag r) < 4 * (mag x * 2 ^ 1074)
  near-below y f g l =
      let s = short y f g in
      let l' = subst (λ (u : ℕ). mag y < u) (mag-odd 53 false p j) l in
      rw (square, mag-odd 53 false p j)
      (⊎_elim
      (λ (e : 2 ^ 52 ≡ p). at_edge p (2 ^ j) n (mag y) l' (edge (sym e)))
      (λ (k : 2 ^ 52 < p). far-below p (2 ^ j) n (mag y) (omega arith) (pow_pos j) (rw s.3 (next-below s.0 s.1 j p s.2 k (rw s.3 at l'))) mid-1)
      (eq-or-lt_of_le p-low))

  pub near-above : (y : Float) → T (fits binary64 y) → T (plus y) → mag r < mag y → 4 * (mag x * 2 ^ 1074) < (mag y + mag r) * (mag y + mag r)
  near-above y f g l =
      let s = short y f g in
      let l' = subst (λ (u : ℕ). u < mag y) (mag-odd 53 false p j) l in
      rw (square, mag-odd 53 false p j)
      (far-above p (2 ^ j) n (mag y) (pow_pos j) (rw s.3 (next-above s.0 s.1 j p s.2 p-low (rw s.3 at l'))) mid-2)

-- ---- of a finite f64 above 0
module _ (m : ℕ) (e : ℤ) (F : T (fits binary64 (fin false (suc m) e))) where
  abbrev this : Float
  this = fin false (suc m) e

  abbrev pattern : ℕ
  pattern = to_bits binary64 this

  over-nought : lt nought this ≡ true
  unfolding lt
  over-nought = lt-ltb (0 * 1 * down e) (suc m * up e * 1) (some-above m e)

  in-range : pattern < 0x7ff0_0000_0000_0000
  in-range = lt_of_not-le (λ (g : 0x7ff0_0000_0000_0000 ≤ pattern).
      true≢false (ap plus (sym (of_bits-to_bits binary64 this F)) ∙ plus-top pattern g (to_bits-lt binary64 this F)))

  its-size : mag this ≡ units_of pattern
  its-size = ap mag (sym (of_bits-to_bits binary64 this F)) ∙ mag-bits pattern in-range

  pub root-nearest : Nearest this (root this)
  root-nearest =
      let t = some-parts pattern (some_bits this F over-nought) in-range in
      let a = t.0 in
      let h = t.1 in
      let S = t.2 in
      let q = isqrt 54 (wide a h * 2 ^ 54) in
      let W = isqrt-is 54 (wide a h * 2 ^ 54) (in-108 pattern a h S) in
      let is : odd 53 false ((q + 1) / 2) (h / 2 - 1) 1074 ≡ root this = sym (rounded-is pattern a h q S W) ∙ root-above this F over-nought in-range in
      subst (λ (r : Float). Nearest this r) is (record {
        of_positive = tt;
        is-f64 = subst (λ (r : Float). T (fits binary64 r)) (packed pattern a h q S W ∙ rounded-is pattern a h q S W) (of_bits-fits binary64 ((h / 2 - 1) * 2 ^ 52 + (q + 1) / 2));
        is-plus = plus-odd 53 ((q + 1) / 2) (h / 2 - 1) 1074;
        below = near-below this pattern a h q S W its-size;
        above = near-above this pattern a h q S W its-size;
      })

-- ---- no other is the nearest

by_size : (r s : Float) → T (plus r) → T (plus s) → mag r ≡ mag s → to_bits binary64 r ≡ to_bits binary64 s
unfolding to_bits mag
by_size nan s g h e = absurd g
by_size (inf t) s g h e = absurd g
by_size (fin t m d) nan g h e = absurd h
by_size (fin t m d) (inf u) g h e = absurd h
by_size (fin true m d) (fin u n c) g h e = absurd g
by_size (fin false m d) (fin true n c) g h e = absurd h
by_size (fin false m d) (fin false n c) g h e = ap (λ (x : ℕ). 0 + (lib.Ieee.size x - 53) * 2 ^ 52 + x / 2 ^ (lib.Ieee.size x - 53)) e

pub nearest-one : (x r s : Float) → Nearest x r → Nearest x s → r ≡ s
nearest-one x r s R S =
    let same : mag r ≡ mag s = le_antisymm (not-less s r S R) (not-less r s R S) in
    sym (of_bits-to_bits binary64 r R.is-f64) ∙ ap (of_bits binary64) (by_size r s R.is-plus S.is-plus same) ∙ of_bits-to_bits binary64 s S.is-f64
  where
    -- of two nearest neither is below the other
    not-less : (r s : Float) → Nearest x r → Nearest x s → mag s ≤ mag r
    not-less r s R S =
        le_of_suc-le-suc (lt_of_not-le (λ (l : mag r < mag s).
        let a = R.above s S.is-f64 S.is-plus l in
        let b = S.below r R.is-f64 R.is-plus l in
        native.Mathlib.Nat.lt_irrefl (4 * (mag x * 2 ^ 1074)) (lt_trans a (rw (add_comm (mag s) (mag r)) b))))

-- ---- of every f64

pub root_is : (x : Float) → T (fits binary64 x) → SquareRoot x (root x)
unfolding SquareRoot root
root_is nan f = refl
root_is (inf true) f = refl
root_is (inf false) f = refl
root_is (fin s zero e) f = refl
root_is (fin true (suc m) e) f = refl
root_is (fin false (suc m) e) f = root-nearest m e f

pub root-one : (x r s : Float) → SquareRoot x r → SquareRoot x s → r ≡ s
unfolding SquareRoot
root-one nan r s p q = p ∙ sym q
root-one (inf true) r s p q = p ∙ sym q
root-one (inf false) r s p q = p ∙ sym q
root-one (fin t zero e) r s p q = p ∙ sym q
root-one (fin true (suc m) e) r s p q = p ∙ sym q
root-one (fin false (suc m) e) r s p q = nearest-one (fin false (suc m) e) r s p q
