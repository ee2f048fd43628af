use Rattle.lines_polygon.proofs.LimitLaws.{within-next, within-not, within_end}
use borrow.Author.Rules.{rules}
use Rattle.lines_polygon.proofs.extent.has_sides.Goals as goal

pub loop-i-preserved : goal.loop-i-preserved
loop-i-preserved c = search (within-next, rules)

pub returns-then-not-has_side : goal.returns-then-not-has_side
returns-then-not-has_side c = search (within-not, rules)

pub returns : goal.returns
returns c = search (within_end, rules)
