use Rattle.std.proofs.Common.{rules}
use Rattle.test_stored.proofs.PieceLaws.{next-repeat, no-repeat}
use Rattle.test_stored.proofs.repeat.Goals as goal

pub loop-k-preserved : goal.loop-k-preserved
loop-k-preserved c = search (next-repeat, rules)

pub returns : goal.returns
returns c = search (no-repeat, rules)
