use native.Mathlib.Omega.{arith}
use Rattle.case_definitions.proofs.WalkLaws.{list-none, list_over, list-short, list-there}
use Rattle.case_definitions.proofs.walker.list_at.Goals as goal

pub returns-then-all-at : goal.returns-then-all-at
returns-then-all-at c = list-none _ _ _ (omega arith)

pub returns-then-limit-n : goal.returns-then-limit-n
returns-then-limit-n c = list_over _ _ _ _ (omega arith) c.word_at-n.ensures c.if-limit-n.true

pub returns-then-all-at-2 : goal.returns-then-all-at-2
returns-then-all-at-2 c = list-short _ _ _ _ (omega arith) c.word_at-n.ensures c.if-limit-n.false (omega arith)

pub returns : goal.returns
returns c = list-there _ _ _ _ (omega arith) c.word_at-n.ensures c.if-limit-n.false (omega arith)
