-- What `locate_cell` and its parts need of the work area, and what its parts answer.
use Rattle.std.specs.Prelude.{ℕ, ◌+◌, ◌<◌, ◌≤◌, ◌≡◌, true, List, Float, None}
use Rattle.arith.specs.F64.{◌≺◌, finite}
use Rattle.arith.specs.Limits.{most_bins}
use Rattle.arith.specs.Lists.{first_from}
use Rattle.arith.specs.declared.Vec2.{Vec2}
use Rattle.mesh_area.specs.declared.Sizes.{Sizes}
use Rattle.mesh_area.specs.Layout.{words_end}
use Rattle.lines_bins.specs.Index.{flag_in}
use Rattle.lines_bins.specs.Ensures.{BinIndex}
use Rattle.lines_polygon.specs.declared.Position.TheVariants.{Outside}
use Rattle.lines_polygon.specs.Extent.{LimitsHold, limits_from}
use Rattle.lines_locate.specs.declared.Bin.{Bin}
use Rattle.lines_locate.specs.declared.Grid.{Grid}
use Rattle.lines_locate.specs.declared.Located.{Located}
use Rattle.lines_locate.specs.declared.Search.{Search}
use Rattle.lines_locate.specs.Bins.{CellPolygon}
use Rattle.lines_locate.specs.Locate.{holds, with_position}
use Rattle.lines_locate.specs.Ranges.{Ranged}
use Rattle.lines_locate.specs.Layout.{floats_at, polygon_in}

-- no polygon contains a point outside of the limits that stand with it
pub record HasLimits (s : Sizes) (words : List ℕ) (floats : List Float) : Type 0 where
  pub each : (i : ℕ) → i < s.cells → LimitsHold (polygon_in s words floats i) (limits_from floats (floats_at s i + 48))

-- bounds that are not flat, as refusal 18 leaves them
pub record Spread (g : Grid) : Type 0 where
  pub left : finite g.bounds.left ≡ true
  pub bottom : finite g.bounds.bottom ≡ true
  pub wide : (g.bounds.left ≺ g.bounds.right) ≡ true
  pub high : (g.bounds.bottom ≺ g.bounds.top) ≡ true

-- what `bin_for` and `index_bin` need of a grid
pub record HasBins (g : Grid) : Type 0 where
  pub wide : 0 < g.bins.x
  pub high : 0 < g.bins.y
  pub few-wide : g.bins.x ≤ most_bins
  pub few-high : g.bins.y ≤ most_bins
  pub spread : Spread g

-- each cell's range in the index is that of the limits that stand with it
pub record HasRanges (g : Grid) (s : Sizes) (words : List ℕ) (floats : List Float) : Type 0 where
  pub each : (i : ℕ) → i < s.cells → Ranged g (limits_from floats (floats_at s i + 48)) words (words_end s) i

-- a grid with bins; the polygons have limits, and the cells their ranges; the index, where it stands, lists each cell in the bins of its range
pub record LocateCellEntry (g : Grid) (s : Sizes) (words : List ℕ) (floats : List Float) : Type 0 where
  pub binned : HasBins g
  pub index : 0 < s.cells → flag_in words (words_end s) s.cells ≡ 1 → BinIndex words (words_end s) s.cells (g.bins.x + 1) (g.bins.y + 1)
  pub limits : HasLimits s words floats
  pub ranges : HasRanges g s words floats

-- the lowest cell that holds the point, and where the point lies to it
unfoldable pub first_holding : Search → Bin → Vec2 → List CellPolygon → Located
first_holding search b q cells = with_position cells q (first_from (holds search b q) 0 cells)

-- no cell
unfoldable pub nowhere : Located
nowhere = record { cell = None; position = Outside }
