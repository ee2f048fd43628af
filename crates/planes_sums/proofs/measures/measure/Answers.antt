use Rattle.planes_sums.specs.Sample.{measure_of}
use Rattle.planes_sums.proofs.measures.measure.Goals as goal

pub returns : goal.returns
unfolding measure_of
returns c = rw (c.abs.ensures, c.dot.ensures, c.area_vector.ensures)
