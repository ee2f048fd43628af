-- `locate_cell`: the cell of a point, by the bins or by all cells. `located`: with it, where the point lies to its polygon.
use Rattle.std.specs.Prelude.{◌≤◌, ◌≡◌, Bool, true, false, ◌&&◌, List, Some, None, ℕ}
use Rattle.arith.specs.F64.{finite}
use Rattle.arith.specs.Lists.{first_from}
use Rattle.arith.specs.Vec.{pair}
use Rattle.arith.specs.declared.Vec2.{Vec2}
use Rattle.arith.specs.declared.Vec3.{Vec3}
use Rattle.lines_polygon.specs.Contains.{position, is_within, contains}
use Rattle.lines_polygon.specs.declared.Position.{Position}
use Rattle.lines_polygon.specs.declared.Position.TheVariants.{Outside}
use Rattle.lines_locate.specs.declared.Bin.{Bin}
use Rattle.lines_locate.specs.declared.Grid.{Grid}
use Rattle.lines_locate.specs.declared.Located.{Located}
use Rattle.lines_locate.specs.declared.Search.{Search}
use Rattle.lines_locate.specs.declared.Search.TheVariants.{Bins, All}
use Rattle.lines_locate.specs.Bins.{CellPolygon, cell_polygon_at, bin_for, is_listed}
use Rattle.std.specs.declared.option.Option.{Option}

-- a cell was found
unfoldable pub is_found : Option ℕ → Bool
is_found (Some i) = true
is_found None = false

-- a point without its height
unfoldable pub xy_of : Vec3 → Vec2
xy_of p = pair p.x p.y

-- the cells that are looked at: those listed in the point's bin, or all: "bins unused"
unfoldable pub is_searched : Search → Bin → CellPolygon → Bool
is_searched Bins b c = is_listed b c
is_searched All b c = true

-- looked at, and containing the point
unfoldable pub holds : Search → Bin → Vec2 → CellPolygon → Bool
holds search b q c = is_searched search b c && contains q c.polygon

-- the lowest such cell, where the test holds
unfoldable pub locate_where : Bool → Search → Grid → List CellPolygon → Vec2 → Option ℕ
locate_where false search g cells q = None
locate_where true search g cells q = first_from (holds search (bin_for g q) q) 0 cells

-- by the bins "the lowest listed cell that contains the point, tolerance included", by all cells "the lowest cell whose polygon contains the point";
-- "a point whose x or y is not finite locates nowhere"
unfoldable pub locate : Search → Grid → List CellPolygon → Vec3 → Option ℕ
locate search g cells p = locate_where (finite p.x && finite p.y) search g cells (xy_of p)

-- where a point lies to the polygon of the cell that was found, and outside where none was
unfoldable pub position_in : List CellPolygon → Vec2 → Option ℕ → Position
position_in cells q (Some i) = position q (cell_polygon_at cells i).polygon
position_in cells q None = Outside

-- the cell, and where the point lies to its polygon
unfoldable pub with_position : List CellPolygon → Vec2 → Option ℕ → Located
with_position cells q cell = record { cell = cell; position = position_in cells q cell }

-- "Codes 1 and 9 gain a second word": the position is that of the cell that `locate` finds
unfoldable pub located : Search → Grid → List CellPolygon → Vec3 → Located
located search g cells p = with_position cells (xy_of p) (locate search g cells p)

-- a cell was found exactly where the point is not outside
unfoldable pub FoundWithin : Located → Type 0
FoundWithin l = is_found l.cell ≡ is_within l.position

-- the first finds a cell where the second does, and none above it
unfoldable pub AtOrBelow : Option ℕ → Option ℕ → Type 0
AtOrBelow r None = Unit
AtOrBelow None (Some i) = ⊥
AtOrBelow (Some k) (Some i) = k ≤ i
