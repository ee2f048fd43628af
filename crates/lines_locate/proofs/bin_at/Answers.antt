use Rattle.lines_locate.specs.Layout.{bin_from}
use Rattle.lines_locate.proofs.bin_at.Goals as goal

pub returns : goal.returns
unfolding bin_from
returns c = rw c.wide-word.ensures.0
