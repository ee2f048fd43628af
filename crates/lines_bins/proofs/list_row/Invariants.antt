use Rattle.lines_bins.proofs.Laws.{Rowing}
use Rattle.lines_bins.proofs.list_row.Given as goal

abbrev pub invariant-loop-x : goal.invariant-loop-x
invariant-loop-x l = Rowing l.initial.words l.words l.base l.n l.nx l.ny l.i l.y l.x0 l.x1 l.x l.t
