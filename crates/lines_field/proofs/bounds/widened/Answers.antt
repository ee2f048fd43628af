use Rattle.lines_field.specs.Bounds.{widened}
use Rattle.lines_field.proofs.bounds.widened.Goals as goal

pub returns : goal.returns
unfolding widened
returns c = rw (c.max-2.ensures, c.max.ensures, c.min-2.ensures, c.min.ensures)
