use mathlib.Core.Path.{◌≡◌}
use lib.ListN.{length}
use Rattle.case_file.specs.Trailer.{words_in}
use Rattle.mesh_area.specs.Layout.{points_in}
use Rattle.mesh_cells.specs.Ensures.{CellsSoFar, defined_in}
use Rattle.mesh_cells.proofs.fill_cells.Given as goal

abbrev pub invariant-loop-i : goal.invariant-loop-i
invariant-loop-i l =
    (length l.words ≡ length l.initial.words) × (length l.floats ≡ length l.initial.floats)
    × CellsSoFar l.dimension (points_in l.case l.points) (words_in l.ws) (defined_in l.s (words_in l.ws)) l.s l.words l.floats l.i l.p
