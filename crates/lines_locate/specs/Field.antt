-- `StreamlineField`: what a 2D case is traced in. `zone_at`: the zone of a cell.
-- `searching`, `zoned`, `staying`: the same under another search, with other zones, for a line that stays in another zone.
use Rattle.std.specs.Prelude.{ℕ, List, get_or}
use Rattle.mesh_area.specs.Tables.{Cell}
use Rattle.lines_locate.specs.declared.Grid.{Grid}
use Rattle.lines_locate.specs.declared.Search.{Search}
use Rattle.lines_locate.specs.Bins.{CellPolygon}

-- the polygons with their bins, the cells with their centres and neighbours, the bounds and the bin counts, which cells a point is looked for in, the zones
-- of the cells, and the zone that a line stays in
pub record StreamlineField : Type 0 where
  pub polygons : List CellPolygon
  pub cells : List Cell
  pub grid : Grid
  pub search : Search
  pub zones : List ℕ
  pub home : ℕ

-- the zone of a cell; "In edition 1 every zone is 0"
unfoldable pub zone_at : StreamlineField → ℕ → ℕ
zone_at f i = get_or f.zones i 0

-- the same field under another search
unfoldable pub searching : Search → StreamlineField → StreamlineField
searching search f = record { polygons = f.polygons; cells = f.cells; grid = f.grid; search = search; zones = f.zones; home = f.home }

-- the same field with other zones
unfoldable pub zoned : List ℕ → StreamlineField → StreamlineField
zoned zones f = record { polygons = f.polygons; cells = f.cells; grid = f.grid; search = f.search; zones = zones; home = f.home }

-- the same field for a line that stays in another zone
unfoldable pub staying : ℕ → StreamlineField → StreamlineField
staying home f = record { polygons = f.polygons; cells = f.cells; grid = f.grid; search = f.search; zones = f.zones; home = home }
