use Rattle.lines_polygon.proofs.LimitLaws.{limits-kept, limits-none}
use Rattle.lines_polygon.proofs.extent.limits_of.Goals as goal

pub returns-then-has_sides : goal.returns-then-has_sides
returns-then-has_sides c = limits-kept _ _ _ c.narrowest-l.ensures c.has_sides.ensures c.if-has_sides.true

pub returns-else-has_sides : goal.returns-else-has_sides
returns-else-has_sides c = limits-none _ _ _ c.narrowest-l.ensures c.has_sides.ensures c.if-has_sides.false _ c.unlimited.ensures
