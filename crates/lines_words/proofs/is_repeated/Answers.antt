use Rattle.std.proofs.Common.{arith}
use Rattle.lines_words.specs.Pen.{is_repeated}
use Rattle.lines_words.proofs.is_repeated.Goals as goal

pub returns-then-pen-gt0 : goal.returns-then-pen-gt0
unfolding is_repeated
returns-then-pen-gt0 c = grind arith

pub returns-else-pen-gt0 : goal.returns-else-pen-gt0
unfolding is_repeated
returns-else-pen-gt0 c = grind arith
