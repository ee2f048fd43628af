use mathlib.Core.Path.{◌≡◌}
use lib.ListN.{length}
use Rattle.case_file.specs.Trailer.{words_in}
use Rattle.mesh_area.specs.Layout.{points_in}
use Rattle.mesh_centres.proofs.Going.{Going}
use Rattle.mesh_centres.proofs.finish_cells.Given as goal

abbrev pub invariant-loop-i : goal.invariant-loop-i
invariant-loop-i l =
    (length l.floats ≡ length l.initial.floats) × Going l.dimension (points_in l.case l.points) (words_in l.ws) l.s l.words l.initial.floats l.floats l.i l.c.at
