-- Points told apart, or found to be one, by the square of their distance alone. Assumes nothing.
use Prim.Native.Nat.{ℕ, suc, ◌+◌, ◌*◌, ◌^◌, ◌≤◌, ◌<◌}
use native.Mathlib.Nat.{mul-pos, mul_right_comm, zero-lt-suc, mul-le-mul_right, mul-lt-mul_of_pos_right, lt_of_mul-lt-mul_right, le_of_mul-le-mul_right, lt_of_lt_of_le, le_trans}
use native.Mathlib.Omega.{arith}
use mathlib.Core.Path.{◌≡◌, refl, sym, ◌∙◌, subst}
use mathlib.Core.Bool.{Bool, true, false, ◌&&◌, ◌||◌, true≢false, false≢true}
use lib.Dec.{T, ltb, eqb}
use lib.IntN.{ℤ, negsuc}
use lib.Ieee.{Float, nan, inf, fin, binary64, up, down, lt, le, eq, fits, of_bits}
use lib.Ieee.Fits.{up_pos, down_pos}
use borrow.Author.Tests.{ltb-true, ltb-false, le-ltb, eq-eqb, ne_eqb}
use Rattle.arith_root.specs.Root.{root, plus}
use Rattle.arith.specs.F64.{◌≺◌, ◌≼◌, float, finite, signed}
use Rattle.arith.specs.Vec.{norm_squared, norm}
use Rattle.arith.specs.declared.Vec3.{Vec3}
use Rattle.arith.proofs.RootLaws.{root-monotone, square-fits, square-signed, root-plus}
use Rattle.planes_crossings.proofs.PlaneLaws.{at_most}

-- ---- fractions: p / d, c / f and q / e

cross-lt : (p d c f q e : ℕ) → 0 < e → p * f < c * d → c * e ≤ q * f → p * e < q * d
cross-lt p d c f q e E h g =
    lt_of_mul-lt-mul_right f
    (subst (λ (x : ℕ). x < q * d * f) (mul_right_comm p f e)
    (lt_of_lt_of_le (mul-lt-mul_of_pos_right h E)
    (subst (λ (x : ℕ). x ≤ q * d * f) (mul_right_comm c e d) (subst (λ (x : ℕ). c * e * d ≤ x) (mul_right_comm q f d) (mul-le-mul_right d g)))))

cross-le : (p d c f q e : ℕ) → 0 < f → c * d ≤ p * f → q * f ≤ c * e → q * d ≤ p * e
cross-le p d c f q e F h g =
    le_of_mul-le-mul_right {m = q * d} {n = p * e} {k = f}
    (le_trans (subst (λ (x : ℕ). x ≤ c * e * d) (mul_right_comm q f d) (mul-le-mul_right d g))
    (subst (λ (x : ℕ). x ≤ p * e * f) (mul_right_comm c d e) (subst (λ (x : ℕ). c * d * e ≤ x) (mul_right_comm p f e) (mul-le-mul_right e h)))) F

le_is : (a b : ℕ) → a ≤ b → (ltb a b || (eqb a b && true)) ≡ true
le_is a b h = by (ltb a b) refl
  where
    by : (t : Bool) → ltb a b ≡ t → (t || (eqb a b && true)) ≡ true
    by true e = refl
    by false e = let k = ltb-false a b e in rw (eq-eqb a b (omega arith))

le-is-not : (a b : ℕ) → b < a → (ltb a b || (eqb a b && true)) ≡ false
le-is-not a b h = rw (le-ltb a b (omega arith), ne_eqb a b (λ e. omega arith))

no_zero : (a b : ℕ) → 0 < a → (eqb a b && eqb a 0) ≡ false
no_zero a b h = rw (ne_eqb a 0 (λ e. omega arith)) (by (eqb a b))
  where
    by : (t : Bool) → (t && false) ≡ false
    by true = refl
    by false = refl

-- ---- two floats by a third above 0 between them

module _ (k : ℕ) (z : ℤ) where
  abbrev c : Float
  c = fin false (suc k) z

  some : (d : ℤ) → 0 < suc k * up z * down d
  some d = mul-pos (mul-pos (zero-lt-suc k) (up_pos z)) (down_pos d)

  beyond : (r t : Float) → lt r c ≡ false → lt t c ≡ true → le r t ≡ false
  unfolding le lt eq
  beyond nan t h g = refl
  beyond (inf true) t h g = absurd (true≢false h)
  beyond (inf false) nan h g = refl
  beyond (inf false) (inf true) h g = refl
  beyond (inf false) (inf false) h g = absurd (false≢true g)
  beyond (inf false) (fin u n d) h g = refl
  beyond (fin s m e) nan h g = refl
  beyond (fin s m e) (inf true) h g = refl
  beyond (fin s m e) (inf false) h g = absurd (false≢true g)
  beyond (fin true m e) (fin u n d) h g =
      let l = ltb-false 0 (m * up e * down z + suc k * up z * down e) h in
      let w = some e in
      absurd (omega arith)
  beyond (fin false m e) (fin true n d) h g =
      let l : 0 * down e < m * up e * down d =
      cross-lt 0 (down d) (suc k * up z) (down z) (m * up e) (down e) (down_pos e) (let w = some d in omega arith) (ltb-false (m * up e * down z) (suc k * up z * down e) h)
      in
      no_zero (m * up e * down d) (n * up d * down e) (omega arith)
  beyond (fin false m e) (fin false n d) h g =
      le-is-not (m * up e * down d) (n * up d * down e)
      (cross-lt (n * up d) (down d) (suc k * up z) (down z) (m * up e) (down e) (down_pos e) (ltb-true (n * up d * down z) (suc k * up z * down d) g) (ltb-false (m * up e * down z) (suc k * up z * down e) h))

  within : (r t : Float) → T (plus r) → lt c r ≡ false → le c t ≡ true → le r t ≡ true
  unfolding le lt eq
  within nan t p h g = absurd p
  within (inf s) t p h g = absurd p
  within (fin true m e) t p h g = absurd p
  within (fin false m e) nan p h g = absurd (false≢true g)
  within (fin false m e) (inf true) p h g = absurd (false≢true g)
  within (fin false m e) (inf false) p h g = refl
  within (fin false m e) (fin true n d) p h g = absurd (false≢true (sym (no_zero (suc k * up z * down d) (n * up d * down z) (some d)) ∙ g))
  within (fin false m e) (fin false n d) p h g =
      le_is (m * up e * down d) (n * up d * down e)
      (cross-le (n * up d) (down d) (suc k * up z) (down z) (m * up e) (down e) (down_pos z) (at_most (suc k * up z * down d) (n * up d * down z) true g) (ltb-false (suc k * up z * down e) (m * up e * down z) h))

-- ---- the bounds of squares in the code, and their roots

abbrev pub 2^-38 : Float
2^-38 = float 0x3d90000000000000

abbrev pub 2^-19 : Float
2^-19 = float 0x3ec0000000000000

abbrev pub 2^-80 : Float
2^-80 = float 0x3af0000000000000

abbrev pub 2^-40 : Float
2^-40 = float 0x3d70000000000000

root-38 : root 2^-38 ≡ 2^-19
unfolding root of_bits
root-38 = refl

root-80 : root 2^-80 ≡ 2^-40
unfolding root of_bits
root-80 = refl

fits-38 : T (fits binary64 2^-38)
unfolding fits of_bits
fits-38 = tt

fits-80 : T (fits binary64 2^-80)
unfolding fits of_bits
fits-80 = tt

over : (r t : Float) → (r ≺ 2^-19) ≡ false → (t ≺ 2^-19) ≡ true → (r ≼ t) ≡ false
unfolding of_bits
over r t h g = beyond 0 (negsuc 18) r t h g

under : (r t : Float) → T (plus r) → (2^-40 ≺ r) ≡ false → (2^-40 ≼ t) ≡ true → (r ≼ t) ≡ true
unfolding of_bits
under r t p h g = within 0 (negsuc 39) r t p h g

-- what is at most 2 ^ -80 is not above it, and with no minus sign it is finite
at-most-80 : (s : Float) → (s ≼ 2^-80) ≡ true → (2^-80 ≺ s) ≡ false
unfolding of_bits le lt eq
at-most-80 nan h = absurd (false≢true h)
at-most-80 (inf true) h = refl
at-most-80 (inf false) h = absurd (false≢true h)
at-most-80 (fin true m e) h = refl
at-most-80 (fin false m e) h = le-ltb (1 * 1 * down e) (m * up e * 2 ^ 80) (at_most (m * up e * 2 ^ 80) (1 * 1 * down e) true h)

finite-80 : (s : Float) → signed s ≡ false → (s ≼ 2^-80) ≡ true → finite s ≡ true
unfolding of_bits le lt eq signed finite
finite-80 nan h g = absurd (false≢true g)
finite-80 (inf true) h g = absurd (true≢false h)
finite-80 (inf false) h g = absurd (false≢true g)
finite-80 (fin t m e) h g = refl

-- ---- of a vector, by its square s

module _ (v : Vec3) (s t : Float) (e : s ≡ norm_squared v) where
  pub told-apart : (s ≺ 2^-38) ≡ false → (t ≺ 2^-19) ≡ true → (norm v ≼ t) ≡ false
  unfolding norm
  told-apart h g =
      let l : (root (norm_squared v) ≺ root 2^-38) ≡ false = root-monotone (norm_squared v) 2^-38 (square-fits v) fits-38 (subst (λ (x : Float). (x ≺ 2^-38) ≡ false) e h) in
      over (root (norm_squared v)) t (subst (λ (x : Float). (root (norm_squared v) ≺ x) ≡ false) root-38 l) g

  pub found-one : (s ≼ 2^-80) ≡ true → (2^-40 ≼ t) ≡ true → (norm v ≼ t) ≡ true
  unfolding norm
  found-one h g =
      let q : (norm_squared v ≼ 2^-80) ≡ true = subst (λ (x : Float). (x ≼ 2^-80) ≡ true) e h in
      let l : (root 2^-80 ≺ root (norm_squared v)) ≡ false = root-monotone 2^-80 (norm_squared v) fits-80 (square-fits v) (at-most-80 (norm_squared v) q) in
      let p = root-plus (norm_squared v) (square-fits v) (square-signed v) (finite-80 (norm_squared v) (square-signed v) q) in
      under (root (norm_squared v)) t p (subst (λ (x : Float). (x ≺ root (norm_squared v)) ≡ false) root-80 l) g
