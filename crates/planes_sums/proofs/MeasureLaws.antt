-- The measure of a polygon, its sign, and the field's value. Assumes nothing.
use Prim.Native.Nat.{ℕ, zero, suc, ◌+◌, ◌*◌, ◌≤◌}
use native.Mathlib.Omega.{arith}
use mathlib.Core.Path.{◌≡◌, refl, ap, sym}
use mathlib.Core.Bool.{Bool, true, false, not, ◌&&◌, ◌||◌, false≢true}
use mathlib.Core.List.{List, [], ◌∷◌}
use lib.Dec.{ltb, eqb}
use lib.ListN.{get_or, drop}
use lib.Ieee.{Float, nan, inf, fin, up, down, lt, le, eq, of_bits}
use borrow.Author.Tests.{ltb-true, ltb-false, le-ltb, eq-eqb, ne_eqb}
use Rattle.arith.specs.F64.{◌≺◌, ◌≼◌, 0·0, finite}
use Rattle.arith.specs.Lists.{fold, windows}
use Rattle.arith.specs.Vec.{origin}
use Rattle.arith.specs.declared.Vec3.{Vec3}
use Rattle.planes_crossings.specs.Ensures.{slice_points, point_in}
use Rattle.planes_crossings.proofs.HeldLaws.{held-left}
use Rattle.planes_sums.specs.Sample.{add_vector, vector_of}
use Rattle.planes_sums.specs.Statistics.{counted}

pub vector-start : (x y z : List Float) (n : ℕ) (o t : Vec3) → 1 ≤ n → o ≡ point_in x y z 0 → t ≡ origin →
    fold (add_vector o) t (windows (drop 1 (slice_points x y z n))) ≡ vector_of (slice_points x y z n)
unfolding vector_of
vector-start x y z n o t h e w = rw (e, w) (sym (ap vector_of (held-left x y z n 0 (omega arith)).left))

-- ---- a finite float is above 0, or it is 0 or less

over : (a b : ℕ) → a ≡ 0 → ltb a b ≡ not (ltb b a || (eqb b a && true))
over a b z = by (ltb a b) refl
  where
    by : (t : Bool) → ltb a b ≡ t → t ≡ not (ltb b a || (eqb b a && true))
    by true e = let l = ltb-true a b e in rw (le-ltb b a (omega arith), ne_eqb b a (λ h. omega arith))
    by false e = let l = ltb-false a b e in rw (le-ltb b a (omega arith), eq-eqb b a (omega arith))

under : (a b : ℕ) → b ≡ 0 → false ≡ not (ltb 0 (a + b) || (eqb a b && eqb a 0))
under a b z = by (ltb 0 (a + b)) refl
  where
    by : (t : Bool) → ltb 0 (a + b) ≡ t → false ≡ not (t || (eqb a b && eqb a 0))
    by true e = refl
    by false e = let l = ltb-false 0 (a + b) e in rw (eq-eqb a b (omega arith), eq-eqb a 0 (omega arith))

above-zero : (m : Float) → finite m ≡ true → (0·0 ≺ m) ≡ not (m ≼ 0·0)
unfolding of_bits lt le eq finite
above-zero nan h = absurd (false≢true h)
above-zero (inf s) h = absurd (false≢true h)
above-zero (fin true m e) h = under (m * up e * 1) (0 * 1 * down e) (omega arith)
above-zero (fin false m e) h = over (0 * 1 * down e) (m * up e * 1) (omega arith)

pub counted-above : (m v : Float) → (finite m && ((0·0 ≺ m) && finite v)) ≡ counted m v
unfolding counted
counted-above m v = by (finite m) refl
  where
    by : (t : Bool) → finite m ≡ t → (t && ((0·0 ≺ m) && finite v)) ≡ (t && (not (m ≼ 0·0) && finite v))
    by true e = ap (λ (s : Bool). s && finite v) (above-zero m e)
    by false e = refl

-- a field that is none of 1 to 5
pub scalar-else : (a b c d e f : Float) (k : ℕ) → (k ≡ 1 → ⊥) → (k ≡ 2 → ⊥) → (k ≡ 3 → ⊥) → (k ≡ 4 → ⊥) → (k ≡ 5 → ⊥) →
    a ≡ get_or (a ∷ b ∷ c ∷ d ∷ e ∷ f ∷ []) k a
scalar-else a b c d e f zero n1 n2 n3 n4 n5 = refl
scalar-else a b c d e f (suc zero) n1 n2 n3 n4 n5 = absurd (n1 refl)
scalar-else a b c d e f (suc (suc zero)) n1 n2 n3 n4 n5 = absurd (n2 refl)
scalar-else a b c d e f (suc (suc (suc zero))) n1 n2 n3 n4 n5 = absurd (n3 refl)
scalar-else a b c d e f (suc (suc (suc (suc zero)))) n1 n2 n3 n4 n5 = absurd (n4 refl)
scalar-else a b c d e f (suc (suc (suc (suc (suc zero))))) n1 n2 n3 n4 n5 = absurd (n5 refl)
scalar-else a b c d e f (suc (suc (suc (suc (suc (suc k)))))) n1 n2 n3 n4 n5 = refl
