use Rattle.std.proofs.Common.{arith}
use Rattle.lines_polygon.specs.Contains.{on_edge}
use Rattle.lines_polygon.proofs.on_edge.Goals as goal

pub returns-then-between : goal.returns-then-between
unfolding on_edge
returns-then-between c = grind arith

pub returns-else-between : goal.returns-else-between
unfolding on_edge
returns-else-between c = grind arith
