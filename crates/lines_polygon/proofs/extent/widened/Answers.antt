use Rattle.lines_polygon.specs.Extent.{widened}
use Rattle.lines_polygon.proofs.extent.widened.Goals as goal

pub returns : goal.returns
unfolding widened
returns c =
    rw (c.min-2.ensures, c.left_reach.ensures, c.max-2.ensures, c.reach.ensures, c.max.ensures, c.min.ensures)
