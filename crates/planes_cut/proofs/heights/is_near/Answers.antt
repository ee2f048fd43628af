use Rattle.planes_cut.specs.Cut.{near}
use Rattle.planes_cut.proofs.heights.is_near.Goals as goal

pub returns : goal.returns
unfolding near
returns c = rw (c.is_near_at.ensures, c.height.ensures)
