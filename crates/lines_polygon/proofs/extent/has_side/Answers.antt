use Rattle.std.proofs.Common.{arith}
use Rattle.lines_polygon.specs.Extent.{side_within}
use Rattle.lines_polygon.proofs.extent.has_side.Goals as goal

pub returns-then-has_end-2 : goal.returns-then-has_end-2
unfolding side_within
returns-then-has_end-2 c = grind arith

pub returns-else-has_end-2 : goal.returns-else-has_end-2
unfolding side_within
returns-else-has_end-2 c = grind arith
