-- The faces of a partial cell: refusals 13 and 14, "face by face".
-- `measured_from`: the geometry of a face that is turned outward.
-- `CellFaces`, `add_face_of`: the faces of a cell, one after another.
use Rattle.std.specs.Prelude.{ℕ, List, [], ◌∷◌, ◌++◌, Ok}
use Rattle.arith.specs.declared.Vec3.{Vec3}
use Rattle.reading.specs.Result.{Refusable, ◌>>=◌}
use Rattle.mesh_area.specs.Tables.{Face}
use Rattle.mesh_geometry.specs.Faces.{Oriented, oriented_face}
use Rattle.mesh_geometry.specs.declared.FaceGeometry.{FaceGeometry}
use Rattle.mesh_faces.specs.Table.{add_face}

-- ---- one face

-- what was measured of a face that is turned outward
unfoldable pub measured_from : Oriented → FaceGeometry
measured_from o = record { centre = o.centre; area = o.area; normal = o.normal; area_vector = o.area_vector }

-- the face table, and the numbers of the present cell's faces so far
pub record CellFaces : Type 0 where
  pub faces : List Face
  pub numbers : List ℕ

-- refusals 13 and 14, "face by face"
unfoldable pub add_face_of : ℕ → List Vec3 → ℕ → Vec3 → CellFaces → List ℕ → Refusable CellFaces
add_face_of d ps cell reference g l =
    oriented_face d ps reference l >>= λ o.
    add_face cell o.vertices (measured_from o) g.faces >>= λ p.
    Ok (record { faces = p.faces; numbers = g.numbers ++ p.number ∷ [] })
