-- The field of a mesh has its cells, and a polygon for each. Assumes nothing.
use Prim.Native.Nat.{ℕ}
use native.Mathlib.Omega.{arith}
use mathlib.Core.Path.{◌≡◌, refl, ◌∙◌}
use mathlib.Core.List.{[], map}
use lib.ListN.{length-map}
use Rattle.reading.proofs.ResultLaws.{bound}
use Rattle.mesh_area.specs.Tables.{Mesh}
use Rattle.lines_field.specs.Vertices.{polygon_of}
use Rattle.lines_field.specs.Bins.{listed_in}
use Rattle.lines_locate.specs.declared.Search.TheVariants.{Bins}
use Rattle.lines_locate.specs.Field.{StreamlineField}
use Rattle.lines_field.specs.Field.{polygons_of, field_of}
use Rattle.lines_velocity.specs.Velocity.{neighbours_of}
use Rattle.job_reads.proofs.Within.{Numbers, Sound, FieldFrom}
use Rattle.std.specs.Prelude.{Ok}

pub field-from : (m : Mesh) (f : StreamlineField) → field_of m ≡ Ok f → FieldFrom m f
unfolding field_of polygons_of
field-from m f e =
    let a = bound _ _ _ e in
    let w : record { polygons = map (listed_in a.value) (polygons_of m); cells = m.cells; grid = a.value; search = Bins; zones = []; home = 0 } ≡ f = cc a.then in
    rw (← w) (record { cells = refl; polygons = length-map (map (polygon_of m) m.cells) (listed_in a.value) ∙ length-map m.cells (polygon_of m) })

-- the field of a mesh of n cells
pub field-sound : (n : ℕ) (m : Mesh) (f : StreamlineField) → Numbers n m → field_of m ≡ Ok f → Sound n f
unfolding neighbours_of
field-sound n m f h e =
    let g = field-from m f e in
    record { few = omega (arith, g.polygons, h.cells); near = λ i. rw g.cells (h.near i) }
