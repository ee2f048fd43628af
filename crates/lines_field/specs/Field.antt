-- `StreamlineField::from_dataset`, with the refusals 18 and 19.
use Rattle.std.specs.Prelude.{ℕ, List, [], map, length, Ok, Err}
use Rattle.arith.specs.Lists.{flatten}
use Rattle.arith.specs.declared.Vec2.{Vec2}
use Rattle.reading.specs.Result.{Refusable, refuse, ◌>>=◌}
use Rattle.mesh_area.specs.Tables.{Mesh}
use Rattle.lines_locate.specs.declared.Box.{Box}
use Rattle.lines_locate.specs.declared.Bin.{Bin}
use Rattle.lines_locate.specs.declared.Grid.{Grid}
use Rattle.lines_locate.specs.declared.Search.TheVariants.{Bins}
use Rattle.lines_field.specs.Vertices.{polygon_of}
use Rattle.lines_field.specs.Bounds.{bounds_of}
use Rattle.lines_locate.specs.Field.{StreamlineField}
use Rattle.lines_field.specs.Bins.{listed_in, bin_counts, are_flat, are_many}
use Rattle.refusal.specs.declared.Refusal.TheVariants.{FlatBounds, TooManyBins}

-- the polygons of all cells
unfoldable pub polygons_of : Mesh → List (List Vec2)
polygons_of m = map (polygon_of m) m.cells

-- 18, 19, or the bounds and the bin counts
unfoldable pub grid_for : Box → Bin → Refusable Grid
grid_for b n = refuse FlatBounds (are_flat b) >>= λ _. refuse TooManyBins (are_many n) >>= λ _. Ok (record { bounds = b; bins = n })

-- over all polygons
unfoldable pub grid_of : ℕ → List (List Vec2) → Refusable Grid
grid_of cells ls = grid_for (bounds_of (flatten ls)) (bin_counts cells (bounds_of (flatten ls)))

-- "in 2D only, 18 flat bounds, 19 a bin count above 65,536 (added)"
unfoldable pub field_of : Mesh → Refusable StreamlineField
field_of m =
    grid_of (length m.cells) (polygons_of m) >>= λ g.
    Ok (record { polygons = map (listed_in g) (polygons_of m); cells = m.cells; grid = g; search = Bins; zones = []; home = 0 })
