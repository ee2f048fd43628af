use Rattle.lines_field.proofs.LimitLaws.{Limiting}
use Rattle.lines_build.proofs.build.limit_cells.Given as goal

abbrev pub invariant-loop-i : goal.invariant-loop-i
invariant-loop-i l = Limiting l.s l.words l.initial.floats l.floats l.i
