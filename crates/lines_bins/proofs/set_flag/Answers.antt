use Rattle.lines_bins.proofs.Laws.{pools}
use borrow.Author.Rules.{rules}
use Rattle.lines_bins.proofs.set_flag.Goals as goal

pub returns : goal.returns
returns c = search (pools, rules)
