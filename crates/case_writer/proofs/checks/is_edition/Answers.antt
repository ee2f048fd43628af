use native.Mathlib.Omega.{arith}
use Rattle.std.proofs.lemmas.Bool.Decides.{nat_tests}
use Rattle.case_contents.specs.Refusals.{is_edition}
use Rattle.case_writer.proofs.checks.is_edition.Goals as goal

pub returns-then-e-eq1 : goal.returns-then-e-eq1
unfolding is_edition
returns-then-e-eq1 c = grind (arith, nat_tests)

pub returns-else-e-eq1 : goal.returns-else-e-eq1
unfolding is_edition
returns-else-e-eq1 c = grind (arith, nat_tests)
