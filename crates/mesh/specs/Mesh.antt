-- `UnstructuredMesh::from_cells`, with refusals 8 to 17 in 01's order:
-- `acceptable` (mesh_coordinates): 8, 9 and 10, over all coordinates.
-- `partial_mesh` (mesh_cells): 11 to 14, cell by cell.
-- `centred`: 15, for all cells.
-- `joined`: 16, for all faces, and 17; then the mesh.
-- `completed`: from 15 on. `filled`: from 11 on. `from_cells`: the whole.
use Rattle.std.specs.Prelude.{ℕ, not, List, Ok}
use Rattle.arith.specs.Lists.{any_of}
use Rattle.arith.specs.declared.Vec3.{Vec3}
use Rattle.reading.specs.Result.{Refusable, ◌>>=◌, refuse, map_all}
use Rattle.case_definitions.specs.Faces.{Definition}
use Rattle.mesh_area.specs.Tables.{Face, Cell, Mesh}
use Rattle.mesh_coordinates.specs.Coordinates.{acceptable}
use Rattle.mesh_orientation.specs.Orientation.{misplaced}
use Rattle.mesh_neighbours.specs.Neighbours.{linked}
use Rattle.mesh_connection.specs.Connection.{connected_cells}
use Rattle.mesh_cells.specs.Cells.{PartialCell, PartialMesh, partial_mesh}
use Rattle.mesh_centres.specs.Finish.{finished}
use Rattle.refusal.specs.declared.Refusal.TheVariants.{WrongOrientation, NotConnected}

-- 15 "zero volume"
abbrev pub centred : ℕ → List Vec3 → List PartialCell → Refusable (List Cell)
centred d ps ts = map_all (finished d ps) ts

-- 16 "orientation"; the neighbours of each cell "in face order"; 17 "not connected"
unfoldable pub joined : List Vec3 → List Face → List Cell → Refusable Mesh
joined ps fs cs =
    refuse WrongOrientation (any_of (misplaced cs) fs) >>= λ _.
    refuse NotConnected (not (connected_cells (linked fs cs))) >>= λ _.
    Ok (record { points = ps; faces = fs; cells = linked fs cs })

-- 15, then 16 and 17
unfoldable pub completed : ℕ → List Vec3 → PartialMesh → Refusable Mesh
completed d ps t = centred d ps t.cells >>= λ cs. joined ps t.faces cs

-- 11 to 14, then 15 to 17
unfoldable pub filled : ℕ → List Vec3 → List Definition → Refusable Mesh
filled d ps defs = partial_mesh d ps defs >>= λ t. completed d ps t

-- 8 to 10, then 11 to 17
unfoldable pub from_cells : ℕ → List Vec3 → List Definition → Refusable Mesh
from_cells d ps defs = acceptable ps defs >>= λ _. filled d ps defs
