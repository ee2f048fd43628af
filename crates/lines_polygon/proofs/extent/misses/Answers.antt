use Rattle.std.proofs.Common.{arith}
use Rattle.lines_polygon.specs.Extent.{misses}
use Rattle.lines_polygon.proofs.extent.misses.Goals as goal

pub returns-then-q-l : goal.returns-then-q-l
unfolding misses
returns-then-q-l c = grind arith

pub returns-else-q-l : goal.returns-else-q-l
unfolding misses
returns-else-q-l c = grind arith
