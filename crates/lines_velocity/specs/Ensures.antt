-- A tracer: the field that it traces in, and what the functions that take velocities and trace lines need of it.
use Rattle.std.specs.Prelude.{ℕ, ◌≡◌, Bool, true, List, Float, Ok}
use Rattle.arith.specs.Lists.{all_of}
use Rattle.case_file.specs.Trailer.{opened}
use Rattle.case_file.specs.Field.{zones_of}
use Rattle.mesh_area.specs.Layout.{LentWords, LentFloats}
use Rattle.lines_polygon.specs.Vertices.{xy_within}
use Rattle.lines_locate.specs.declared.Search.{Search}
use Rattle.lines_locate.specs.Field.{StreamlineField, searching, zoned, staying}
use Rattle.lines_locate.specs.Layout.{field_in}
use Rattle.lines_locate.specs.Ensures.{LocateCellEntry}
use Rattle.lines_velocity.specs.declared.Tracer.{Tracer}

-- the field that the area holds under a tracer, with the zones of a case
unfoldable pub tracer_field : Tracer → List ℕ → List ℕ → List Float → StreamlineField
tracer_field t case words floats = staying t.home (zoned (zones_of case) (searching t.search (field_in t.grid t.sizes words floats)))

-- the same tracer under another search
unfoldable pub tracer_searching : Search → Tracer → Tracer
tracer_searching search t = record { counts = t.counts; sizes = t.sizes; grid = t.grid; search = search; home = t.home }

-- the same tracer for a line that stays in another zone
unfoldable pub tracer_staying : ℕ → Tracer → Tracer
tracer_staying home t = record { counts = t.counts; sizes = t.sizes; grid = t.grid; search = t.search; home = home }

-- every vertex of every polygon lies within 1,048,576 each way, as refusal 10 leaves it
unfoldable pub vertices_within : StreamlineField → Bool
vertices_within f = all_of (λ c. all_of xy_within c.polygon) f.polygons

-- an area of the right sizes, and a grid whose bins can be searched
pub record LocateEntry (words : List ℕ) (floats : List Float) (t : Tracer) : Type 0 where
  pub lent-words : LentWords t.sizes words
  pub lent-floats : LentFloats t.sizes floats
  pub searchable : LocateCellEntry t.grid t.sizes words floats

-- the same, a case that opens, and vertices that are not far out
pub record TracerEntry (case words : List ℕ) (floats : List Float) (t : Tracer) : Type 0 where
  pub opens : opened case ≡ Ok t.counts
  pub area : LocateEntry words floats t
  pub within : vertices_within (tracer_field t case words floats) ≡ true
