use Rattle.planes_cut.specs.Plane.{normal_of}
use Rattle.planes_sums.specs.Probe.{off_plane}
use Rattle.planes_sums.proofs.measures.off.Goals as goal

pub returns : goal.returns
unfolding off_plane normal_of
returns c = rw (c.abs.ensures, c.dot.ensures, c.sub.ensures, c.cross-normal.ensures)
