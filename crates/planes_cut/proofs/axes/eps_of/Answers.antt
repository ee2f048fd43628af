use Rattle.planes_cut.specs.Cut.{eps_of}
use Rattle.planes_cut.proofs.axes.eps_of.Goals as goal

pub returns : goal.returns
unfolding eps_of
returns c = rw (c.max-2.ensures, c.max.ensures)
