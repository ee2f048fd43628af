use mathlib.Core.Path.{sym, ◌∙◌}
use Rattle.lines_polygon.specs.Extent.{left_reach}
use Rattle.lines_polygon.proofs.extent.left_reach.Goals as goal

pub returns-then-is_level : goal.returns-then-is_level
unfolding left_reach
returns-then-is_level c = rw (sym c.is_level.ensures ∙ c.if-is_level.true)

pub returns-else-is_level : goal.returns-else-is_level
unfolding left_reach
returns-else-is_level c = rw (sym c.is_level.ensures ∙ c.if-is_level.false, c.min.ensures, c.run.ensures)
