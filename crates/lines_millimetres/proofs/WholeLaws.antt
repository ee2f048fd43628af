-- n / d to the nearest whole number: `whole` is near, nothing else is, it keeps the order, and equal fractions give the same. Assumes nothing.
use mathlib.Core.Path.{◌≡◌, refl, sym, ap, ◌∙◌, subst}
use Prim.Native.Nat.{ℕ, suc, ◌+◌, ◌-◌, ◌*◌, ◌/◌, ◌%◌, ◌≤◌, ◌<◌}
use native.Mathlib.Nat.{add-mul, one-mul, mul_assoc, mul_comm, mul-pos, mul-le-mul_left, mul-le-mul_right, le_of_mul-le-mul_right, eq_of_mul-eq-mul_right, div-add-mod', mod-lt, le_of_eq, le_antisymm, lt_of_not-le, le_of_suc-le-suc}
use native.Mathlib.Decide.{ℕ_discrete}
use native.Mathlib.Omega.{arith}
use mathlib.Core.Bool.{Bool, true, false, cond}
use lib.Dec.{ltb, lit<, lit≤}
use lib.IntN.{pos}
use borrow.Author.Tests.{ltb-true, ltb-false, lt-ltb, le-ltb}
use Rattle.lines_millimetres.specs.Nearest.{Picked, half_of, settled, whole}
use Rattle.lines_millimetres.specs.declared.Rounding.{Rounding}
use Rattle.lines_millimetres.specs.declared.Rounding.TheVariants.{AwayFromZero, ToEven}

-- n / d and k are at most a half apart, and where they are a half apart the choice decides
pub record Near (c : Rounding) (n d k : ℕ) : Type 0 where
  pub low : 2 * (k * d) ≤ 2 * n + d
  pub high : 2 * n ≤ 2 * (k * d) + d
  pub half-low : 2 * (k * d) ≡ 2 * n + d → Picked c (pos n) d (pos k)
  pub half_high : 2 * n ≡ 2 * (k * d) + d → Picked c (pos n) d (pos k)

next : (q d : ℕ) → (q + 1) * d ≡ q * d + d
next q d = add-mul q 1 d ∙ ap (λ (x : ℕ). q * d + x) (one-mul d)

-- ---- `whole` is near

module _ (c : Rounding) (n d q r : ℕ) (split : q * d + r ≡ n) (p : 0 < d) where
  stays : 2 * r ≤ d → (2 * r ≡ d → Picked c (pos n) d (pos q)) → Near c n d q
  stays h pick =
      record { low = omega arith; high = omega arith; half-low = λ e. pick (omega arith); half_high = λ e. pick (omega arith) }

  steps : r < d → d ≤ 2 * r → (2 * r ≡ d → Picked c (pos n) d (pos (q + 1))) → Near c n d (q + 1)
  steps l h pick =
      let s = next q d in
      record { low = omega arith; high = omega arith; half-low = λ e. pick (omega arith); half_high = λ e. pick (omega arith) }

-- a half
halves : (c : Rounding) (n d q r : ℕ) → q * d + r ≡ n → r < d → 2 * r ≡ d → Near c n d (half_of c q)
unfolding half_of Picked
halves AwayFromZero n d q r e l h = steps AwayFromZero n d q r e (omega arith) l (omega arith) (λ _. let s = next q d in omega arith)
halves ToEven n d q r e l h = by (ℕ_discrete (q % 2) 0)
  where
    by : Dec (q % 2 ≡ 0) → Near ToEven n d (q + q % 2)
    by (yes z) =
        let s : q ≡ q + q % 2 = omega arith in
        subst (λ (k : ℕ). Near ToEven n d k) s (stays ToEven n d q r e (omega arith) (omega arith) (λ _. z))
    by (no z) =
        let s : q + 1 ≡ q + q % 2 = omega arith in
        subst (λ (k : ℕ). Near ToEven n d k) s (steps ToEven n d q r e (omega arith) l (omega arith) (λ _. omega arith))

settles : (c : Rounding) (n d q r : ℕ) → q * d + r ≡ n → r < d → Near c n d (settled c q r d)
unfolding settled
settles c n d q r e l = by (ltb (2 * r) d) (ltb d (2 * r)) (ltb-true (2 * r) d) (ltb-false (2 * r) d) (ltb-true d (2 * r)) (ltb-false d (2 * r))
  where
    by : (less more : Bool) → (less ≡ true → 2 * r < d) → (less ≡ false → d ≤ 2 * r) → (more ≡ true → d < 2 * r) → (more ≡ false → 2 * r ≤ d)
        → Near c n d (cond less q (cond more (q + 1) (half_of c q)))
    by true more a b f g = let h = a refl in stays c n d q r e (omega arith) (omega arith) (λ z. absurd (omega arith))
    by false true a b f g = let h = f refl in steps c n d q r e (omega arith) l (omega arith) (λ z. absurd (omega arith))
    by false false a b f g = let h = b refl in let k = g refl in halves c n d q r e l (omega arith)

pub whole-near : (c : Rounding) (n d : ℕ) → 0 < d → Near c n d (whole c n d)
unfolding whole
whole-near c n d p = settles c n d (n / d) (n % d) (div-add-mod' n d) (mod-lt n p)

-- ---- what is near keeps the order, so only one number is near

clash : (c : Rounding) (n n' d k k' : ℕ) → 0 < d → Picked c (pos n) d (pos k) → Picked c (pos n') d (pos k') → k ≡ suc k' → 2 * n' ≡ 2 * (k' * d) + d → ⊥
unfolding Picked
clash AwayFromZero n n' d k k' p a b e h = omega arith
clash ToEven n n' d k k' p a b e h = omega arith

order : (c : Rounding) (n n' d k k' : ℕ) → 0 < d → n ≤ n' → Near c n d k → Near c n' d k' → k ≤ k'
order c n n' d k k' p h a b = le_of_suc-le-suc (lt_of_not-le (λ (g : suc k' ≤ k).
    let m : suc k' * d ≤ k * d = mul-le-mul_right d g in
    let s : suc k' * d ≡ k' * d + d = ap (λ (x : ℕ). x * d) (omega arith) ∙ next k' d in
    let l = a.low in
    let u = b.high in
    let e : 2 * n' ≡ 2 * (k' * d) + d = omega arith in
    let f : k ≤ suc k' = le_of_mul-le-mul_right {m = k} {n = suc k'} {k = d} (omega arith) p in
    clash c n n' d k k' p (a.half-low (omega arith)) (b.half_high e) (omega arith) e))

pub near-one : (c : Rounding) (n d k k' : ℕ) → 0 < d → Near c n d k → Near c n d k' → k ≡ k'
near-one c n d k k' p a b =
    let r : n ≤ n = omega arith in
    le_antisymm (order c n n d k k' p r a b) (order c n n d k' k p r b a)

-- ---- the same fraction in larger terms

wider : (c : Rounding) (n d s k : ℕ) → Picked c (pos n) d (pos k) → Picked c (pos (n * s)) (d * s) (pos k)
unfolding Picked
wider AwayFromZero n d s k h = rw (← mul_assoc k d s) (mul-le-mul_right s h)
wider ToEven n d s k h = h

scaled : (c : Rounding) (n d s k : ℕ) → 0 < s → Near c n d k → Near c (n * s) (d * s) k
scaled c n d s k p a =
    let kd : 2 * (k * (d * s)) ≡ 2 * (k * d) * s = simp mul_assoc in
    let nd : 2 * (n * s) + d * s ≡ (2 * n + d) * s = simp (add-mul, mul_assoc) in
    let nn : 2 * (n * s) ≡ 2 * n * s = simp mul_assoc in
    let kk : 2 * (k * (d * s)) + d * s ≡ (2 * (k * d) + d) * s = simp (add-mul, mul_assoc) in
    record {
      low = rw (kd, nd) (mul-le-mul_right s a.low);
      high = rw (nn, kk) (mul-le-mul_right s a.high);
      half-low = λ e. wider c n d s k (a.half-low (eq_of_mul-eq-mul_right s p _ _ (sym kd ∙ e ∙ nd)));
      half_high = λ e. wider c n d s k (a.half_high (eq_of_mul-eq-mul_right s p _ _ (sym nn ∙ e ∙ kk)));
    }

whole-scale : (c : Rounding) (n d s : ℕ) → 0 < d → 0 < s → whole c (n * s) (d * s) ≡ whole c n d
whole-scale c n d s p q =
    let r : 0 < d * s = mul-pos p q in
    near-one c (n * s) (d * s) (whole c (n * s) (d * s)) (whole c n d) r (whole-near c (n * s) (d * s) r) (scaled c n d s (whole c n d) q (whole-near c n d p))

-- a fraction that is no larger gives no larger number
whole-mono : (c : Rounding) (a b n d : ℕ) → 0 < b → 0 < d → a * d ≤ n * b → whole c a b ≤ whole c n d
whole-mono c a b n d p q h =
    let r : 0 < b * d = mul-pos p q in
    rw (← whole-scale c a b d p q, ← whole-scale c n d b q p, mul_comm d b)
    (order c (a * d) (n * b) (b * d) (whole c (a * d) (b * d)) (whole c (n * b) (b * d)) r h (whole-near c (a * d) (b * d) r) (whole-near c (n * b) (b * d) r))

-- equal fractions give the same
pub whole_same : (c : Rounding) (a b n d : ℕ) → 0 < b → 0 < d → a * d ≡ n * b → whole c a b ≡ whole c n d
whole_same c a b n d p q e = le_antisymm (whole-mono c a b n d p q (le_of_eq e)) (whole-mono c n d a b q p (le_of_eq (sym e)))

-- below a half
pub whole-small : (c : Rounding) (n d : ℕ) → 2 * n < d → whole c n d ≡ 0
whole-small c n d h =
    let p : 0 < d = omega arith in
    near-one c n d (whole c n d) 0 p (whole-near c n d p) (stays c n d 0 n (omega arith) p (omega arith) (λ e. absurd (omega arith)))

-- no larger than n
pub whole_le : (c : Rounding) (n d : ℕ) → 0 < d → whole c n d ≤ n
whole_le c n d p =
    let one : whole c n 1 ≡ n = near-one c n 1 (whole c n 1) n (lit< tt) (whole-near c n 1 (lit< tt)) (stays c n 1 n 0 (omega arith) (lit< tt) (lit≤ tt) (λ e. absurd (omega arith))) in
    rw one at (whole-mono c n d n 1 p (lit< tt) (mul-le-mul_left n p))

-- ---- `whole` by the tests that the code makes

module _ (c : Rounding) (n d : ℕ) where
  pub whole-down : n % d < d - n % d → n / d ≡ whole c n d
  unfolding whole settled
  whole-down h = rw (lt-ltb (2 * (n % d)) d (omega arith))

  pub whole-up : 0 < d → d - n % d < n % d → n / d + 1 ≡ whole c n d
  unfolding whole settled
  whole-up p h = let l = mod-lt n p in rw (le-ltb (2 * (n % d)) d (omega arith), lt-ltb d (2 * (n % d)) (omega arith))

  pub whole-half : 0 < d → d - n % d ≤ n % d → n % d ≤ d - n % d → half_of c (n / d) ≡ whole c n d
  unfolding whole settled
  whole-half p h g = let l = mod-lt n p in rw (le-ltb (2 * (n % d)) d (omega arith), le-ltb d (2 * (n % d)) (omega arith))
