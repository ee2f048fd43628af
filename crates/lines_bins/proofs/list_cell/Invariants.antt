use Rattle.lines_bins.proofs.Laws.{Celling}
use Rattle.lines_bins.proofs.list_cell.Given as goal

abbrev pub invariant-loop-y : goal.invariant-loop-y
invariant-loop-y l = Celling l.initial.words l.words l.base l.n l.nx l.ny l.i l.y0 l.y1 l.y l.t
