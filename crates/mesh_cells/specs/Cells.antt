-- The first pass of `from_cells`, cell by cell: "11 to 14 cell by cell: 11, then 12, then face by face 13 and 14".
-- `PartialCell`, `PartialMesh`: a cell before its centre is known, and the table with the cells so far.
-- `add_cell`, `partial_mesh`: one cell more, and all of them.
use Rattle.std.specs.Prelude.{ℕ, List, [], ◌∷◌, ◌++◌, length, Ok}
use Rattle.arith.specs.declared.Vec3.{Vec3}
use Rattle.reading.specs.Result.{Refusable, ◌>>=◌, refuse, steps}
use Rattle.case_definitions.specs.Faces.{Definition, faces_of}
use Rattle.mesh_area.specs.Tables.{Face}
use Rattle.mesh_points.specs.Collect.{wrong_kind, missing, reference_of}
use Rattle.mesh_cell_parts.specs.Parts.{add_face_of}
use Rattle.refusal.specs.declared.Refusal.TheVariants.{WrongKind, NoSuchPoint}

-- a cell before its centre is known: its definition, the numbers of its faces, and the average of its points
pub record PartialCell : Type 0 where
  pub definition : Definition
  pub faces : List ℕ
  pub reference : Vec3

-- the face table, and the cells so far
pub record PartialMesh : Type 0 where
  pub faces : List Face
  pub cells : List PartialCell

-- one cell more
unfoldable pub add_cell : ℕ → List Vec3 → PartialMesh → Definition → Refusable PartialMesh
add_cell d ps t def =
    refuse WrongKind (wrong_kind d def) >>= λ _.
    refuse NoSuchPoint (missing ps def) >>= λ _.
    steps (add_face_of d ps (length t.cells) (reference_of ps def)) (record { faces = t.faces; numbers = [] }) (faces_of def) >>= λ g.
    Ok (record { faces = g.faces; cells = t.cells ++ record { definition = def; faces = g.numbers; reference = reference_of ps def } ∷ [] })

-- all cells
unfoldable pub partial_mesh : ℕ → List Vec3 → List Definition → Refusable PartialMesh
partial_mesh d ps defs = steps (add_cell d ps) (record { faces = []; cells = [] }) defs
