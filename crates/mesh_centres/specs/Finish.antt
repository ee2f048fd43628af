-- The second pass of `from_cells`: each cell's centre and its area or volume, by `cell_geometry`.
use Rattle.std.specs.Prelude.{ℕ, List, [], map, Ok, Err}
use Rattle.arith.specs.declared.Vec3.{Vec3}
use Rattle.reading.specs.Result.{Refusable, ◌>>=◌}
use Rattle.case_definitions.specs.Faces.{Definition, faces_of}
use Rattle.mesh_area.specs.Tables.{Cell}
use Rattle.mesh_volumes.specs.Geometry.{cell_geometry}
use Rattle.mesh_cells.specs.Cells.{PartialCell}
use Rattle.refusal.specs.declared.Refusal.TheVariants.{NoVolume}

-- refusal 15, "zero volume": a cell with its centre and its area or volume; its neighbours come later
unfoldable pub finished : ℕ → List Vec3 → PartialCell → Refusable Cell
finished d ps c =
    cell_geometry d ps c.reference (faces_of c.definition) >>= λ g.
    Ok (record { faces = c.faces; neighbours = []; centre = g.centre; volume = g.volume })

-- what each case of the answer stands for, where the area holds these cells
unfoldable pub finished_as : Refusable (Unit {0}) → List Cell → Refusable (List Cell)
finished_as (Ok tt) cells = Ok cells
finished_as (Err r) cells = Err r

-- the definitions that the partial cells have
abbrev pub definitions_of : List PartialCell → List Definition
definitions_of l = map (λ (c : PartialCell). c.definition) l
