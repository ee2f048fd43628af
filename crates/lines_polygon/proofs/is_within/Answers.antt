use Rattle.std.proofs.Common.{arith}
use Rattle.lines_polygon.specs.Contains.{is_within}
use Rattle.lines_polygon.proofs.is_within.Goals as goal

pub returns-in-Edge : goal.returns-in-Edge
unfolding is_within
returns-in-Edge c = grind arith

pub returns-in_default : goal.returns-in_default
unfolding is_within
returns-in_default c = grind arith
