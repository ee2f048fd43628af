use Rattle.planes_cut.specs.Cut.{near}
use Rattle.planes_crossings.proofs.crossings.is_near_end.Goals as goal

pub returns : goal.returns
unfolding near
returns c = rw (c.is_near_at.ensures, c.requires.same)
