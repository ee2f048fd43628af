use Rattle.std.proofs.Common.{arith}
use Rattle.lines.specs.Line.{are_accepted}
use Rattle.lines.proofs.integrate.are_accepted.Goals as goal

pub returns-then-is_length-2 : goal.returns-then-is_length-2
unfolding are_accepted
returns-then-is_length-2 c = grind arith

pub returns-else-is_length-2 : goal.returns-else-is_length-2
unfolding are_accepted
returns-else-is_length-2 c = grind arith
