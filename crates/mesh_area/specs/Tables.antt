-- What a mesh is: points, faces and cells, with mesh.rs's fields.
-- `Face`, `Cell`, `Mesh`: what each has.
-- `point_at`: a point by number. `no_face`, `face_at`: a face by number, and what stands past the last one. `no_cell`, `cell_at`: the same of a cell.
use Rattle.std.specs.Prelude.{ℕ, List, [], get_or, Float, None}
use Rattle.arith.specs.F64.{0·0}
use Rattle.arith.specs.Vec.{origin}
use Rattle.arith.specs.declared.Vec3.{Vec3}
use Rattle.std.specs.declared.option.Option.{Option}

-- "A face has the first cell as owner, the second as neighbour."
pub record Face : Type 0 where
  pub vertices : List ℕ
  pub owner : ℕ
  pub neighbour : Option ℕ
  pub centre : Vec3
  pub area : Float
  pub normal : Vec3
  pub area_vector : Vec3

-- its faces by number in the definition's order, its neighbours "in face order", its centre, and its area in 2D or volume in 3D
pub record Cell : Type 0 where
  pub faces : List ℕ
  pub neighbours : List ℕ
  pub centre : Vec3
  pub volume : Float

-- `UnstructuredMesh`: "The quality report and mesh id are left out."
pub record Mesh : Type 0 where
  pub points : List Vec3
  pub faces : List Face
  pub cells : List Cell

-- a point by number
unfoldable pub point_at : List Vec3 → ℕ → Vec3
point_at ps i = get_or ps i origin

-- what stands for a face that is not there
abbrev pub no_face : Face
no_face =
    record { vertices = []; owner = 0; neighbour = None; centre = origin; area = 0·0; normal = origin; area_vector = origin }

-- a face by number
unfoldable pub face_at : List Face → ℕ → Face
face_at fs i = get_or fs i no_face

-- what stands for a cell that is not there
abbrev pub no_cell : Cell
no_cell = record { faces = []; neighbours = []; centre = origin; volume = 0·0 }

-- a cell by number
unfoldable pub cell_at : List Cell → ℕ → Cell
cell_at cs i = get_or cs i no_cell
