use mathlib.Core.Path.{sym, ◌∙◌}
use Rattle.lines_polygon.specs.Extent.{crossing_within}
use Rattle.lines_polygon.proofs.extent.has_crossing.Goals as goal

pub returns-then-is_level : goal.returns-then-is_level
unfolding crossing_within
returns-then-is_level c = rw (sym c.is_level.ensures ∙ c.if-is_level.true)

pub returns-then-is_finite : goal.returns-then-is_finite
unfolding crossing_within
returns-then-is_finite c = rw (sym c.is_level.ensures ∙ c.if-is_level.false, ← c.run-u.ensures, sym c.is_finite.ensures ∙ c.if-is_finite.true, c.max.ensures, c.min.ensures)

pub returns-else-is_finite : goal.returns-else-is_finite
unfolding crossing_within
returns-else-is_finite c = rw (sym c.is_level.ensures ∙ c.if-is_level.false, ← c.run-u.ensures, sym c.is_finite.ensures, c.if-is_finite.false)
