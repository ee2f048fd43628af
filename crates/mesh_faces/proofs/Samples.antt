-- The definitions on a few faces, computed. Assumes nothing.
use mathlib.Core.Path.{◌≡◌, refl}
use mathlib.Core.List.{List, [], ◌∷◌}
use Prim.Native.Nat.{ℕ}
use Rattle.arith.specs.F64.{0·0}
use Rattle.arith.specs.Vec.{origin}
use Rattle.arith.specs.Lists.{fold, insert_before, sort, sorted, same, first_from}
use Rattle.mesh_area.specs.Tables.{Face, face_at}
use Rattle.mesh_geometry.specs.declared.FaceGeometry.{FaceGeometry}
use Rattle.mesh_faces.specs.Table.{has_key, face_with_key, new_face, with_neighbour, joining, settled, use_face, numbered_face, add_face}
use Rattle.mesh_faces.specs.declared.Added.TheVariants.{New, Second}
use Rattle.std.specs.Prelude.{Err}
use Rattle.refusal.specs.declared.Refusal.TheVariants.{ThirdUser}

computing : ℕ
unfolding fold insert_before sort sorted same first_from face_at has_key face_with_key new_face with_neighbour joining settled use_face numbered_face add_face
computing = 0

flat : FaceGeometry
flat = record { centre = origin; area = 0·0; normal = origin; area_vector = origin }

one : List Face
unfolding computing
one = new_face 0 (3 ∷ 1 ∷ 2 ∷ []) flat ∷ []

two : List Face
unfolding computing
two = with_neighbour 7 (new_face 0 (3 ∷ 1 ∷ 2 ∷ []) flat) ∷ []

-- repeats are kept
repeats : sorted (5 ∷ 2 ∷ 5 ∷ []) ≡ 2 ∷ 5 ∷ 5 ∷ []
unfolding computing
repeats = refl

-- the same numbers in another order are the same face; other numbers are a new one; a third cell is refused
joins : use_face 7 (1 ∷ 2 ∷ 3 ∷ []) flat one ≡ record { faces = two; answer = Second 0 }
unfolding computing one two
joins = refl

adds : (use_face 7 (1 ∷ 2 ∷ 2 ∷ []) flat one).answer ≡ New 1
unfolding computing one
adds = refl

refuses : add_face 9 (2 ∷ 3 ∷ 1 ∷ []) flat two ≡ Err ThirdUser
unfolding computing two
refuses = refl
