use Rattle.std.proofs.Common.{arith}
use Rattle.lines.specs.Line.{is_length}
use Rattle.lines.proofs.integrate.is_length.Goals as goal

pub returns-then-is_finite : goal.returns-then-is_finite
unfolding is_length
returns-then-is_finite c = grind arith

pub returns-else-is_finite : goal.returns-else-is_finite
unfolding is_length
returns-else-is_finite c = grind arith
