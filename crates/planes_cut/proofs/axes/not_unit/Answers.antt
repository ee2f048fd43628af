use Rattle.planes_cut.specs.Plane.{not_unit}
use Rattle.planes_cut.proofs.axes.not_unit.Goals as goal

pub returns : goal.returns
unfolding not_unit
returns c = rw (c.abs.ensures, c.norm.ensures)
