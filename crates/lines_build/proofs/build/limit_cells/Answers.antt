use Rattle.lines_field.proofs.LimitLaws.{limiting-end}
use Rattle.lines_build.proofs.build.limit_cells.Goals as goal

pub returns : goal.returns
returns c = limiting-end _ _ _ _ _ c.loop-i.invariant c.loop-i-test.false
