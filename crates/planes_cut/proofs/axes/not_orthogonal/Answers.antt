use Rattle.planes_cut.specs.Plane.{not_orthogonal}
use Rattle.planes_cut.proofs.axes.not_orthogonal.Goals as goal

pub returns : goal.returns
unfolding not_orthogonal
returns c = rw (c.abs.ensures, c.dot.ensures)
