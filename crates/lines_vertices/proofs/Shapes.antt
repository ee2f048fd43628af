-- What the laws say of the faces that the cells of a mesh name.
use Prim.Native.Nat.{ℕ, ◌≤◌, ◌<◌}
use mathlib.Core.Path.{◌≡◌}
use mathlib.Core.Bool.{false, true}
use mathlib.Core.List.{List, [], map}
use lib.ListN.{length, get_or}
use Rattle.arith.specs.Lists.{sorted}
use Rattle.arith.specs.declared.Vec3.{Vec3}
use Rattle.arith.specs.All.{All}
use Rattle.mesh_area.specs.Tables.{Face, Mesh, face_at, cell_at}
use Rattle.case_definitions.specs.Faces.{Definition, faces_of}
use Rattle.mesh_points.specs.Collect.{wrong_kind}
use Rattle.mesh_geometry.specs.Faces.{enough}
use Rattle.mesh_cells.specs.Cells.{PartialCell, PartialMesh}

-- the numbers of a face of the table, in rising order
unfoldable pub key_in : List Face → ℕ → List ℕ
key_in fs n = sorted (face_at fs n).vertices

-- v has the numbers of l in some order, and they are enough
pub record Turned (d : ℕ) (l v : List ℕ) : Type 0 where
  pub key : sorted v ≡ sorted l
  pub long : length v ≡ length l
  pub many : enough d v ≡ true

-- a later table: no face has lost its number or its vertices
pub record Later (fs fs' : List Face) : Type 0 where
  pub more : length fs ≤ length fs'
  pub stays : (i : ℕ) → i < length fs → (face_at fs' i).vertices ≡ (face_at fs i).vertices

-- face n of a later table has the vertices v, in some order
pub record Placing (fs fs' : List Face) (v : List ℕ) (n : ℕ) : Type 0 where
  pub later : Later fs fs'
  pub below : n < length fs'
  pub key : key_in fs' n ≡ sorted v

-- the numbers name faces of the table, which have the numbers of these lists, in their order
pub record Naming (fs : List Face) (own : List ℕ) (ls : List (List ℕ)) : Type 0 where
  pub below : All (λ n. n < length fs) own
  pub keys : map (key_in fs) own ≡ map sorted ls

-- a cell that was not refused, with the faces of its definition
pub record Named (d : ℕ) (fs : List Face) (c : PartialCell) : Type 0 where
  pub kind : wrong_kind d c.definition ≡ false
  pub faces : Naming fs c.faces (faces_of c.definition)

-- the same by number: the k-th number of the cell names the k-th face of its definition
pub record FacesNamed (fs : List Face) (c : PartialCell) : Type 0 where
  pub count : length c.faces ≡ length (faces_of c.definition)
  pub below : (k : ℕ) → k < length c.faces → get_or c.faces k 0 < length fs
  pub key : (k : ℕ) → k < length c.faces → sorted (face_at fs (get_or c.faces k 0)).vertices ≡ sorted (get_or (faces_of c.definition) k [])

-- "a face count (at most 24), then per face a count (at most 8)"; a polygon's count is at most 24 too
pub record Limited (def : Definition) : Type 0 where
  pub faces : length (faces_of def) ≤ 24
  pub numbers : All (λ l. length l ≤ 8) (faces_of def)

-- a mesh of these points and faces, whose cells have the faces of these cells
pub record Over (ps : List Vec3) (t : PartialMesh) (none : PartialCell) (m : Mesh) : Type 0 where
  pub points : m.points ≡ ps
  pub faces : m.faces ≡ t.faces
  pub count : length m.cells ≡ length t.cells
  pub numbers : (i : ℕ) → i < length t.cells → (cell_at m.cells i).faces ≡ (get_or t.cells i none).faces
