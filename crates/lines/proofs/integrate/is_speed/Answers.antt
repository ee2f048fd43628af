use Rattle.std.proofs.Common.{arith}
use Rattle.lines.specs.Line.{is_speed}
use Rattle.lines.proofs.integrate.is_speed.Goals as goal

pub returns-then-is_finite : goal.returns-then-is_finite
unfolding is_speed
returns-then-is_finite c = grind arith

pub returns-else-is_finite : goal.returns-else-is_finite
unfolding is_speed
returns-else-is_finite c = grind arith
