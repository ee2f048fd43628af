use Rattle.lines_field.proofs.GridLaws.{Listing}
use Rattle.lines_field.proofs.bins.list_cells.Given as goal

abbrev pub invariant-loop-i : goal.invariant-loop-i
invariant-loop-i l = Listing l.g l.s l.initial.words l.words l.floats l.i
