use Rattle.arith_angles.specs.Angle.{angle_of}
use Rattle.arith_angles.proofs.angles.angle_of.Goals as goal

pub returns : goal.returns
unfolding angle_of
returns c = rw (c.quarter.ensures, c.slope.ensures)
