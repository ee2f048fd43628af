use Rattle.planes_cut.specs.Plane.{along}
use Rattle.planes_sections.specs.Ensures.{angle_on}
use Rattle.planes_sections.proofs.angles.angle_on.Goals as goal

pub returns : goal.returns
unfolding angle_on along
returns c = rw (c.angle_of.ensures, c.dot-y.ensures, c.dot-x.ensures, c.sub-d.ensures)
