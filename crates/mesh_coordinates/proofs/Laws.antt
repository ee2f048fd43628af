-- All coordinates pass a test, and refusals 8, 9 and 10. Assumes nothing.
use Prim.Native.Nat.{ℕ, ◌<◌}
use native.Mathlib.Nat.{zero-add}
use native.Mathlib.Omega.{arith}
use mathlib.Core.Path.{◌≡◌, refl, ◌∙◌}
use borrow.Author.Tests.{eq-eqb, ne_eqb}
use mathlib.Core.Bool.{Bool, true, false, ◌&&◌}
use mathlib.Core.List.{List, ◌∷◌}
use lib.ListN.{length, get_or}
use Rattle.std.specs.Bool.{MatchBool}
use Rattle.std.specs.List.{AllWithin, HoldsAt, range_with_len}
use Rattle.std.proofs.lemmas.List.FromFn.{length-range_with_len, get_or-range_with_len}
use Rattle.std.proofs.lemmas.List.Recursion.{and_is}
use Rattle.arith.specs.Lists.{all_of}
use Rattle.arith.specs.F64.{finite, within}
use Rattle.arith.specs.Vec.{origin, each3}
use Rattle.arith.specs.declared.Vec3.{Vec3}
use Rattle.reading.specs.Result.{◌>>=◌, refuse}
use Rattle.case_definitions.specs.Faces.{Definition}
use Rattle.mesh_area.specs.Tables.{point_at}
use Rattle.mesh_area.specs.Layout.{points_in}
use Rattle.mesh_area.proofs.LayoutLaws.{length-points}
use Rattle.std.specs.Prelude.{Ok, Err}
use Rattle.refusal.specs.declared.Refusal.TheVariants.{NoCells, CoordinateNotFinite, CoordinateTooLarge}
use Rattle.mesh_coordinates.specs.Coordinates.{acceptable}

-- ---- points: every one passes, by what `all` tells of their numbers

pub all-points : (case : List ℕ) (n : ℕ) (p : Vec3 → Bool) (r : Bool)
    → MatchBool r (AllWithin (λ i. p (point_at (points_in case n) i) ≡ true) (range_with_len 0 n) 0 (length (range_with_len 0 n)))
    ((k : ℕ) × (k < length (range_with_len 0 n)) × HoldsAt (λ i. p (point_at (points_in case n) i) ≡ false) (range_with_len 0 n) k)
    → r ≡ all_of p (points_in case n)
unfolding all_of point_at
all-points case n p r told = and_is (all_of p) p refl step (points_in case n) origin r (every r told) (some r told)
  where
    ps : List Vec3
    ps = points_in case n

    numbers : List ℕ
    numbers = range_with_len 0 n

    step : (v : Vec3) (l : List Vec3) → all_of p (v ∷ l) ≡ (p v && all_of p l)
    step v l = by (p v)
      where
        by : (t : Bool) → elim t [ true ↦ all_of p l | false ↦ false ] ≡ (t && all_of p l)
        by true = refl
        by false = refl

    at : (k : ℕ) → k < n → get_or numbers k 0 ≡ k
    at k h = get_or-range_with_len 0 n k 0 h ∙ zero-add k

    every : (t : Bool) → MatchBool t (AllWithin (λ i. p (get_or ps i origin) ≡ true) numbers 0 (length numbers)) ((k : ℕ) × (k < length numbers) × HoldsAt (λ i. p (get_or ps i origin) ≡ false) numbers k)
        → t ≡ true → (k : ℕ) → k < length ps → p (get_or ps k origin) ≡ true
    every true all e k h =
        let low : k < n = rw length-points at h in
        rw (at k low) at (all k 0 (omega arith) (rw length-range_with_len low))
    every false none e k h = cc

    some : (t : Bool) → MatchBool t (AllWithin (λ i. p (get_or ps i origin) ≡ true) numbers 0 (length numbers)) ((k : ℕ) × (k < length numbers) × HoldsAt (λ i. p (get_or ps i origin) ≡ false) numbers k)
        → t ≡ false → (k : ℕ) × (k < length ps) × (p (get_or ps k origin) ≡ false)
    some true all e = cc
    some false w e =
        let low : w.0 < n = rw length-range_with_len at w.1 in
        (w.0, rw length-points low, rw (at w.0 low) at (w.2 0))

-- ---- 8, 9 and 10

module _ (ps : List Vec3) (defs : List Definition) where
  pub accept-8 : length defs ≡ 0 → Err NoCells ≡ acceptable ps defs
  unfolding acceptable refuse ◌>>=◌
  accept-8 e = rw (eq-eqb (length defs) 0 e, refuse, ◌>>=◌)

  module _ (some : length defs ≡ 0 → ⊥) where
    pub accept-9 : all_of (each3 finite) ps ≡ false → Err CoordinateNotFinite ≡ acceptable ps defs
    unfolding acceptable refuse ◌>>=◌
    accept-9 e = rw (ne_eqb (length defs) 0 some, e, refuse, ◌>>=◌)

    module _ (fin : all_of (each3 finite) ps ≡ true) where
      pub accept-10 : all_of (each3 within) ps ≡ false → Err CoordinateTooLarge ≡ acceptable ps defs
      unfolding acceptable refuse ◌>>=◌
      accept-10 e = rw (ne_eqb (length defs) 0 some, fin, e, refuse, ◌>>=◌)

      pub accept-all : all_of (each3 within) ps ≡ true → Ok tt ≡ acceptable ps defs
      unfolding acceptable refuse ◌>>=◌
      accept-all e = rw (ne_eqb (length defs) 0 some, fin, e, refuse, ◌>>=◌)
