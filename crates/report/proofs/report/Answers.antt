use borrow.Author.Rules.{rules}
use Rattle.report.proofs.Laws.{reported}
use Rattle.report.proofs.report.Goals as goal

pub returns : goal.returns
returns c = search (reported, rules)
