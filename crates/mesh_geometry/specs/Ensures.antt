-- What the answers of the functions mean: "a definition sets out this paper's number and values for each of its cases".
use Rattle.std.specs.Prelude.{ℕ, ◌≡◌, List, Some, None, Ok, Err}
use Rattle.arith.specs.declared.Vec3.{Vec3}
use Rattle.reading.specs.Result.{Refusable}
use Rattle.mesh_geometry.specs.Faces.{Oriented, measured, oriented_face, left_order}
use Rattle.std.specs.declared.option.Option.{Option}
use Rattle.refusal.specs.declared.Refusal.TheVariants.{DegenerateFace}
use Rattle.mesh_geometry.specs.declared.FaceGeometry.{FaceGeometry}

-- 13 "degenerate face"
unfoldable pub vector_of : Option Vec3 → Refusable Vec3
vector_of (Some v) = Ok v
vector_of None = Err DegenerateFace

-- the vertices are those that the slice holds
unfoldable pub face_of : List ℕ → Option FaceGeometry → Refusable Oriented
face_of l (Some g) =
    Ok (record { vertices = l; centre = g.centre; area = g.area; normal = g.normal; area_vector = g.area_vector })
face_of l None = Err DegenerateFace

-- `oriented_face`: a slice before and after, and the answer
pub record OrientedFaceExit (d : ℕ) (ps : List Vec3) (reference : Vec3) (before after : List ℕ) (r : Option FaceGeometry) : Type 0 where
  pub face : face_of after r ≡ oriented_face d ps reference before
  pub order : after ≡ left_order reference before (measured d ps before)
