use mathlib.Core.Path.{sym, ◌∙◌}
use Rattle.lines_polygon.specs.Extent.{reach}
use Rattle.lines_polygon.proofs.extent.reach.Goals as goal

pub returns-then-is_level : goal.returns-then-is_level
unfolding reach
returns-then-is_level c = rw (sym c.is_level.ensures ∙ c.if-is_level.true)

pub returns-else-is_level : goal.returns-else-is_level
unfolding reach
returns-else-is_level c = rw (sym c.is_level.ensures ∙ c.if-is_level.false, c.max.ensures, c.run.ensures)
