use Rattle.lines_field.proofs.GridLaws.{widen-turn, widen-end}
use borrow.Author.Rules.{rules}
use Rattle.lines_field.proofs.bounds.widened_by.Goals as goal

pub loop-k-preserved : goal.loop-k-preserved
loop-k-preserved c = widen-turn _ _ _ _ _ _ c.loop-k.invariant c.loop-k-test.true _ _ c.pair_at.ensures c.widened-b.ensures

pub returns : goal.returns
returns c = search (widen-end, rules)
