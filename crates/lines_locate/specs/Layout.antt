-- Where the tracer's part of the work area holds the polygons.
-- Words: cell i from 16F + 8C + 8i on: its range in the index, first x, y, last x, y; its vertex count; the first and the last bin that it is
-- listed in, each as 65536y + x; from 16F + 16C on the index, where it fits. Floats: from 12F + 4C + 60i on the x and y of its vertices, of which
-- at most 24 are read, and from the 49th on its limits.
-- `words_at`, `floats_at`: where a cell's words and floats start. `count_in`, `polygon_in`: its polygon.
-- `bin_from`, `cell_polygon_in`, `cell_polygons_in`: the polygons with their bins. `field_in`: the whole field.
use Rattle.std.specs.Prelude.{ℕ, ◌+◌, ◌*◌, ◌/◌, ◌%◌, min, List, [], get_or, Float}
use Rattle.arith.specs.Limits.{most_bins}
use Rattle.arith.specs.Records.{tab}
use Rattle.arith.specs.declared.Vec2.{Vec2}
use Rattle.mesh_area.specs.declared.Sizes.{Sizes}
use Rattle.mesh_area.specs.Layout.{words_end, floats_end, cells_in}
use Rattle.lines_polygon.specs.Vertices.{pairs_from}
use Rattle.lines_locate.specs.declared.Bin.{Bin}
use Rattle.lines_locate.specs.declared.Grid.{Grid}
use Rattle.lines_locate.specs.declared.Search.TheVariants.{Bins}
use Rattle.lines_locate.specs.Bins.{CellPolygon}
use Rattle.lines_locate.specs.Field.{StreamlineField}

-- where cell i's words start
abbrev pub words_at : Sizes → ℕ → ℕ
words_at s i = words_end s + 8 * i

-- where its floats start
abbrev pub floats_at : Sizes → ℕ → ℕ
floats_at s i = floats_end s + 60 * i

-- how many vertices cell i has; what is above 24 counts as 24
unfoldable pub count_in : Sizes → List ℕ → ℕ → ℕ
count_in s words i = min (get_or words (words_at s i + 4) 0) 24

-- the polygon of cell i
unfoldable pub polygon_in : Sizes → List ℕ → List Float → ℕ → List Vec2
polygon_in s words floats i = pairs_from floats (floats_at s i) (count_in s words i)

-- the bin whose word stands at a place
unfoldable pub bin_from : List ℕ → ℕ → Bin
bin_from words at = record { x = get_or words at 0 % most_bins; y = get_or words at 0 / most_bins }

-- the polygon of cell i with its bins
unfoldable pub cell_polygon_in : Sizes → List ℕ → List Float → ℕ → CellPolygon
cell_polygon_in s words floats i =
    record {
      polygon = polygon_in s words floats i;
      first = bin_from words (words_at s i + 5);
      last = bin_from words (words_at s i + 6);
    }

-- those of all cells
unfoldable pub cell_polygons_in : Sizes → List ℕ → List Float → List CellPolygon
cell_polygons_in s words floats = tab (cell_polygon_in s words floats) s.cells

-- the field that the area holds, whatever stands there, as it is built: without zones
unfoldable pub field_in : Grid → Sizes → List ℕ → List Float → StreamlineField
field_in g s words floats =
    record { polygons = cell_polygons_in s words floats; cells = cells_in s words floats; grid = g; search = Bins; zones = []; home = 0 }
