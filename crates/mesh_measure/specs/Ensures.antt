-- The contracts of `cell_geometry` and its parts.
-- `faces_at`: the faces of a record.
-- `FaceEntry`, `NextFace`: a face, and the next one.
-- `add_edge`: `AddEdgeExit`. `add_face_3d`: `AddFaceExit`. `add_turned` and `add_faces_3d`: `weight_of`.
use Rattle.std.specs.Prelude.{ℕ, ◌+◌, ◌<◌, ◌≡◌, List, Some, None, Ok, Err}
use Rattle.arith.specs.declared.Vec3.{Vec3}
use Rattle.reading.specs.Result.{Refusable}
use Rattle.case_definitions.specs.Faces.{faces_of}
use Rattle.case_definitions.specs.Ensures.{definition_at, face_at}
use Rattle.case_faces.specs.Ensures.{AtFace}
use Rattle.case_definitions.specs.declared.Head.{Head}
use Rattle.case_faces.specs.declared.FaceCursor.{FaceCursor}
use Rattle.mesh_volumes.specs.declared.Weight.{Weight}
use Rattle.mesh_volumes.specs.Geometry.{add_triangle, add_face_3d}
use Rattle.mesh_measure.specs.declared.Weighed.{Weighed}
use Rattle.std.specs.declared.option.Option.{Option}
use Rattle.refusal.specs.declared.Refusal.TheVariants.{NoVolume}

-- the faces of the record h
unfoldable pub faces_at : List ℕ → Head → List (List ℕ)
faces_at ws h = faces_of (definition_at ws h.at)

-- c is at a face of h
pub record FaceEntry (ws : List ℕ) (h : Head) (c : FaceCursor) : Type 0 where
  pub at-face : AtFace ws h c
  pub more : c.face < h.faces

-- the next face
pub record NextFace (ws : List ℕ) (h : Head) (c next : FaceCursor) : Type 0 where
  pub face : next.face ≡ c.face + 1
  pub at-face : AtFace ws h next

-- an edge added to the sums, and the next face
pub record AddEdgeExit (ps : List Vec3) (ws : List ℕ) (h : Head) (c : FaceCursor) (reference : Vec3) (w : Weight) (r : Weighed) : Type 0 where
  pub sum : r.weight ≡ add_triangle ps reference w (face_at ws h.at c.face)
  pub next : NextFace ws h c r.next

-- what each answer in 3D stands for
pub data AddFaceExit (ps : List Vec3) (ws : List ℕ) (h : Head) (c : FaceCursor) (reference : Vec3) (w : Weight) : Option Weighed → Type 0 where
  added : {t : Weighed} → add_face_3d ps reference w (face_at ws h.at c.face) ≡ Ok t.weight → NextFace ws h c t.next → AddFaceExit ps ws h c reference w (Some t)
  degenerate : add_face_3d ps reference w (face_at ws h.at c.face) ≡ Err NoVolume → AddFaceExit ps ws h c reference w None

-- 15 "zero volume"
unfoldable pub weight_of : Option Weight → Refusable Weight
weight_of (Some w) = Ok w
weight_of None = Err NoVolume
