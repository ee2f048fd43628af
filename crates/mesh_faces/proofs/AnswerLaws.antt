-- What an answer says of the table, for a caller. Assumes nothing.
use mathlib.Core.Path.{◌≡◌, ap}
use mathlib.Core.Bool.{Bool, true, false}
use mathlib.Core.List.{List, [], ◌∷◌}
use Prim.Native.Nat.{ℕ, suc, ◌+◌, ◌<◌}
use native.Mathlib.Omega.{arith}
use lib.ListN.{length}
use Rattle.arith.specs.Lists.{first_from, sorted}
use Rattle.mesh_area.specs.Tables.{Face, face_at}
use Rattle.mesh_geometry.specs.declared.FaceGeometry.{FaceGeometry}
use Rattle.mesh_faces.specs.Table.{has_key, face_with_key, joining, settled, use_face}
use Rattle.mesh_faces.specs.declared.Added.TheVariants.{New, Second}
use Rattle.std.specs.Prelude.{Some, None}
use Rattle.std.specs.declared.option.Option.{Option}

-- what is found is there
pub first_below : (p : Face → Bool) (k : ℕ) (l : List Face) (i : ℕ) → first_from p k l ≡ Some i → i < k + length l
unfolding first_from
first_below p k [] i e = let z : ◌≡◌ {A = ℕ} 0 1 = cc in omega arith
first_below p k (a ∷ l) i e = by (p a) (first_below p (suc k) l i) e
  where
    by : (t : Bool) → (first_from p (suc k) l ≡ Some i → i < suc k + length l) → elim t [ true ↦ Some k | false ↦ first_from p (suc k) l ] ≡ Some i → i < k + suc (length l)
    by true r e = let q : k ≡ i = cc in omega arith
    by false r e = let h = r e in omega arith

module _ (cell : ℕ) (fs : List Face) (i : ℕ) where
  joins-none : (n : Option ℕ) (k : ℕ) → New i ≡ (joining n cell fs k).answer → i ≡ length fs
  unfolding joining
  joins-none None k e = cc
  joins-none (Some n) k e = cc

  joins-there : (n : Option ℕ) (k : ℕ) → Second i ≡ (joining n cell fs k).answer → k ≡ i
  unfolding joining
  joins-there None k e = cc
  joins-there (Some n) k e = cc

  module _ (vertices : List ℕ) (m : FaceGeometry) where
    settles-new : (r : Option ℕ) → New i ≡ (settled r cell vertices m fs).answer → i ≡ length fs
    unfolding settled
    settles-new None e = cc
    settles-new (Some k) e = joins-none (face_at fs k).neighbour k e

    settles-second : (r : Option ℕ) → Second i ≡ (settled r cell vertices m fs).answer → r ≡ Some i
    unfolding settled
    settles-second None e = cc
    settles-second (Some k) e = ap Some (joins-there (face_at fs k).neighbour k e)

    -- a new face has the next number
    pub new-number : New i ≡ (use_face cell vertices m fs).answer → i ≡ length fs
    unfolding use_face
    new-number e = settles-new (face_with_key (sorted vertices) fs) e

    -- a face that gets its second cell is one of the table
    pub second-number : Second i ≡ (use_face cell vertices m fs).answer → i < length fs
    unfolding use_face face_with_key
    second-number e =
        let h = first_below (has_key (sorted vertices)) 0 fs i (settles-second (face_with_key (sorted vertices) fs) e) in
        omega arith
