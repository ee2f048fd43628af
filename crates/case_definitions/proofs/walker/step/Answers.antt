use borrow.Author.Rules.{rules}
use native.Mathlib.Omega.{arith}
use Rattle.case_definitions.proofs.WalkLaws.{step_end, step-unknown, solid-1, solid-2, solid-3, solid-4}
use Rattle.case_definitions.proofs.walker.step.Goals as goal

pub returns-then-total-at : goal.returns-then-total-at
returns-then-total-at c = step_end _ _ (omega arith)

pub solid-requires : goal.solid-requires
solid-requires c = solid-1 _ _ (search rules)

pub solid-requires-in-2 : goal.solid-requires-in-2
solid-requires-in-2 c = solid-2 _ _ (search rules)

pub solid-requires-in-3 : goal.solid-requires-in-3
solid-requires-in-3 c = solid-3 _ _ (search rules)

pub solid-requires-in-4 : goal.solid-requires-in-4
solid-requires-in-4 c = solid-4 _ _ (search rules)

pub returns-in-6-to-4294967295 : goal.returns-in-6-to-4294967295
returns-in-6-to-4294967295 c = step-unknown _ _ (omega arith) (omega arith)
