use mathlib.Core.Path.{◌≡◌}
use Rattle.case_file.specs.Trailer.{words_in}
use Rattle.mesh_area.specs.Layout.{points_in}
use Rattle.mesh_cells.proofs.FaceLaws.{Going}
use Rattle.mesh_cells.proofs.add_faces.Given as goal

abbrev pub invariant-loop : goal.invariant-loop
invariant-loop l =
    (l.c.face ≡ l.counter)
    × Going l.dimension (points_in l.case l.points) (words_in l.ws) l.cell l.s l.initial.words l.words l.initial.floats l.floats l.n l.c
