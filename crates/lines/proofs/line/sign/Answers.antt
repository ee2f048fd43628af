use lib.Ieee.{of_bits, neg}
use Rattle.lines.specs.Line.{sign}
use Rattle.lines.proofs.line.sign.Goals as goal

pub returns-in-Forward : goal.returns-in-Forward
unfolding sign of_bits neg
returns-in-Forward c = rw c.in-Forward.is

pub returns-in-Backward : goal.returns-in-Backward
unfolding sign of_bits neg
returns-in-Backward c = rw c.in-Backward.is
