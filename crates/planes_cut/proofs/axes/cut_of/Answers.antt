use Rattle.planes_cut.specs.Plane.{normal_of}
use Rattle.planes_cut.specs.Cut.{cut_of, tolerance}
use Rattle.planes_cut.proofs.axes.cut_of.Goals as goal

pub returns : goal.returns
unfolding cut_of tolerance normal_of
returns c = rw (c.cross-normal.ensures, c.eps_of-tolerance.ensures, c.reach_of-reach.ensures.0, c.reach_of-reach.ensures.1)
