use Rattle.lines_locate.specs.Ensures.{nowhere}
use borrow.Author.Rules.{rules}
use Rattle.lines_locate.proofs.nowhere.Goals as goal

pub returns : goal.returns
unfolding nowhere
returns c = search rules
