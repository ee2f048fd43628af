use Rattle.std.proofs.Common.{◌∙◌}
use Rattle.lines_millimetres.proofs.WordLaws.{word-is}
use Rattle.lines_millimetres.proofs.word.Goals as goal

pub returns : goal.returns
returns c = c.cast_unsigned.ensures ∙ word-is c.args.k c.ranges.k
