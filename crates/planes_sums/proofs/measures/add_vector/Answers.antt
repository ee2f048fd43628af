use Rattle.planes_sums.specs.Sample.{add_vector}
use Rattle.planes_sums.proofs.measures.add_vector.Goals as goal

pub returns : goal.returns
unfolding add_vector
returns c = rw (c.add.ensures, c.scale.ensures, c.cross.ensures, c.sub-2.ensures, c.sub.ensures)
