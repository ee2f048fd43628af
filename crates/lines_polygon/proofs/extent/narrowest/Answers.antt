use Rattle.lines_polygon.proofs.LimitLaws.{widened-turn, narrowed}
use borrow.Author.Rules.{rules}
use Rattle.lines_polygon.proofs.extent.narrowest.Goals as goal

pub loop-i-preserved : goal.loop-i-preserved
loop-i-preserved c = search (widened-turn, rules)

pub returns : goal.returns
returns c = search (narrowed, rules)
