use Rattle.std.proofs.Common.{arith}
use Rattle.lines_polygon.specs.Contains.{between}
use Rattle.lines_polygon.proofs.between.Goals as goal

pub returns-then-a-min : goal.returns-then-a-min
unfolding between
returns-then-a-min c = grind arith

pub returns-else-a-min : goal.returns-else-a-min
unfolding between
returns-else-a-min c = grind arith
