use native.Mathlib.Omega.{arith}
use Rattle.case_definitions.proofs.WalkLaws.{solid-short, solid-there}
use Rattle.case_definitions.proofs.walker.solid.Goals as goal

pub returns-then-total-at : goal.returns-then-total-at
returns-then-total-at c = solid-short _ _ _ _ _ c.requires (omega arith)

pub returns : goal.returns
returns c = solid-there _ _ _ _ _ c.requires (omega arith)
