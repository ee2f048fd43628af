use Rattle.lines.proofs.JobLaws.{seed-lost, seed-found, all_found}
use Rattle.lines.proofs.rakes.any_nowhere.Goals as goal

pub returns-then-is_nowhere : goal.returns-then-is_nowhere
returns-then-is_nowhere c = λ case. seed-lost _ _ _ _ (c.loop-i.invariant case) _ _ c.loop-i-test.true c.seed_at.ensures (c.is_nowhere.ensures case) c.if-is_nowhere.true

pub loop-i-preserved : goal.loop-i-preserved
loop-i-preserved c = λ case. seed-found _ _ _ _ (c.loop-i.invariant case) _ _ c.loop-i-test.true c.seed_at.ensures (c.is_nowhere.ensures case) c.if-is_nowhere.false

pub returns : goal.returns
returns c = λ case. all_found _ _ _ _ (c.loop-i.invariant case) c.loop-i-test.false
