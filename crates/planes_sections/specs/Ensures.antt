-- The words of the contracts: a piece with its polygon in three slices, and points sorted by their angles.
-- `piece_in`, `vertices_of`, `Full`: the piece that was found. `arranged_about`, `arranged_of`, `FrontPoints`: the points that stand in the slices.
-- `piece_about`: `PieceAboutExit`. `cut_cell` and `piece_of`: `PieceOfExit`.
-- `angle_on`: `angle_on`. `angles_of`: `AnglesOfExit`. `gather`: `GatherEntry`.
use Rattle.std.specs.Prelude.{ℕ, ◌+◌, ◌≤◌, ◌<◌, ◌≡◌, cond, List, [], ◌∷◌, leb, length, get_or, Float, Some, None}
use Rattle.std.specs.Float.{nan}
use Rattle.arith.specs.Lists.{any_of, sort}
use Rattle.arith.specs.Vec.{minus}
use Rattle.arith_angles.specs.Angle.{angle_of}
use Rattle.arith_angles.specs.declared.Angle.{Angle}
use Rattle.arith.specs.declared.Vec3.{Vec3}
use Rattle.mesh_area.specs.Tables.{Mesh, Cell, cell_at}
use Rattle.planes_cut.specs.declared.Cut.{Cut}
use Rattle.planes_cut.specs.declared.Plane.{Plane}
use Rattle.planes_cut.specs.Plane.{along}
use Rattle.planes_crossings.specs.Crossings.{foreign, crossings}
use Rattle.planes_crossings.specs.Ensures.{slice_points, SliceLengths, SlicesKept}
use Rattle.planes_sections.specs.Intersect.{PlaneCell, earlier_on, piece_about, piece_of, section_centre}
use Rattle.std.specs.declared.option.Option.{Option}

-- ---- the piece that was found, with its polygon in the slices

-- one, or none
unfoldable pub piece_in : ℕ → Option (Vec3 × ℕ) → List Float → List Float → List Float → List PlaneCell
piece_in cell (Some (centre, n)) x y z = record { cell = cell; centre = centre; polygon = slice_points x y z n } ∷ []
piece_in cell None x y z = []

-- how many vertices it has
unfoldable pub vertices_of : Option (Vec3 × ℕ) → ℕ
vertices_of (Some (centre, n)) = n
vertices_of None = 0

-- it has three vertices or more
abbrev pub Full : Option (Vec3 × ℕ) → Type 0
Full (Some (centre, n)) = 3 ≤ n
Full None = Unit

-- three points or more are arranged before their area is known, so that they stand in the slices where there is no piece too
unfoldable pub arranged_about : Cut → List Vec3 → List Vec3
arranged_about c l = cond (leb 3 (length l)) (sort (earlier_on c.plane (section_centre l)) l) []

-- those of a cell, where it is not passed over
unfoldable pub arranged_of : Mesh → Cut → ℕ → Cell → List Vec3
arranged_of m c cell k = cond (any_of (foreign m c cell) k.faces) [] (arranged_about c (crossings m c k.faces))

-- the points l stand at the front of the slices; behind them the slices are as they were
pub record FrontPoints (l : List Vec3) (x y z x' y' z' : List Float) : Type 0 where
  pub list : slice_points x' y' z' (length l) ≡ l
  pub rest : SlicesKept x y z x' y' z' (length l)

-- the piece is that of the points l, and has at most 192 vertices
pub record PieceAboutExit (c : Cut) (l : List Vec3) (r : Option (Vec3 × ℕ)) (x y z x' y' z' : List Float) : Type 0 where
  pub piece : (cell : ℕ) → piece_in cell r x' y' z' ≡ piece_about c cell l (section_centre l)
  pub few : vertices_of r ≤ 192
  pub full : Full r
  pub laid : FrontPoints (arranged_about c l) x y z x' y' z'

-- the piece is that of a cell of the mesh
pub record PieceOfExit (m : Mesh) (c : Cut) (cell : ℕ) (r : Option (Vec3 × ℕ)) (x y z x' y' z' : List Float) : Type 0 where
  pub piece : piece_in cell r x' y' z' ≡ piece_of m c cell (cell_at m.cells cell)
  pub few : vertices_of r ≤ 192
  pub full : Full r
  pub laid : FrontPoints (arranged_of m c cell (cell_at m.cells cell)) x y z x' y' z'

-- ---- points sorted by their angles

-- what the order compares of a point
unfoldable pub angle_on : Plane → Vec3 → Vec3 → Angle
angle_on s centre p = angle_of (along s (minus p centre))

-- the first n angles are those of the points
pub record AnglesOfExit (s : Plane) (centre : Vec3) (point : ℕ → Vec3) (n : ℕ) (quarters : List ℕ) (slopes : List Float) : Type 0 where
  pub quarter : (i : ℕ) → i < n → get_or quarters i 0 ≡ (angle_on s centre (point i)).quarter
  pub slope : (i : ℕ) → i < n → get_or slopes i nan ≡ (angle_on s centre (point i)).slope

-- the places are within the slices
pub record GatherEntry (x y z : List Float) (places : List ℕ) : Type 0 where
  pub within : (i : ℕ) → i < length places → SliceLengths x y z (get_or places i 0 + 1)
