use Rattle.planes_sums.specs.Integrals.{weighing}
use Rattle.planes_sums.proofs.keep.weighing.Goals as goal

pub returns : goal.returns
unfolding weighing
returns c = rw (c.dot-through.ensures, c.norm-speed.ensures)
