use Rattle.std.proofs.Common.{arith}
use Rattle.lines_locate.specs.Layout.{count_in}
use Rattle.lines_locate.proofs.count_in.Goals as goal

pub returns : goal.returns
unfolding count_in
returns c = (rw (← c.words_at-at.ensures, ← c.wide.ensures.0) c.min.ensures, omega arith)
