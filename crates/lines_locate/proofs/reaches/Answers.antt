use Rattle.std.proofs.Common.{arith}
use Rattle.lines_bins.specs.Index.{reaches}
use Rattle.lines_locate.proofs.reaches.Goals as goal

pub returns-then-first-b : goal.returns-then-first-b
unfolding reaches
returns-then-first-b c = grind arith

pub returns-else-first-b : goal.returns-else-first-b
unfolding reaches
returns-else-first-b c = grind arith
