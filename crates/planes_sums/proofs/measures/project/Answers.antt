use Rattle.planes_cut.specs.Plane.{along}
use Rattle.planes_sums.specs.Probe.{project}
use Rattle.planes_sums.proofs.measures.project.Goals as goal

pub returns : goal.returns
unfolding project along
returns c = rw (c.dot-y.ensures, c.dot-x.ensures, c.sub-d.ensures)
