use Rattle.lines_bins.proofs.Laws.{Building}
use Rattle.lines_bins.proofs.fill.Given as goal

abbrev pub invariant-loop-i : goal.invariant-loop-i
invariant-loop-i l = Building l.initial.words l.words l.base l.n l.nx l.ny l.i l.t
