use borrow.Author.Rules.{rules}
use Rattle.test_stored.specs.Pieces.{none}
use Rattle.test_stored.proofs.PieceLaws.{next-piece}
use Rattle.test_stored.proofs.assemble.Goals as goal

pub loop-init : goal.loop-init
loop-init c = search (none, rules)

pub loop-preserved : goal.loop-preserved
loop-preserved c = search (next-piece, rules)
