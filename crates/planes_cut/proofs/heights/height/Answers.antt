use Rattle.planes_cut.specs.Cut.{height}
use Rattle.planes_cut.proofs.heights.height.Goals as goal

pub returns : goal.returns
unfolding height
returns c = rw (c.dot.ensures, c.sub.ensures)
