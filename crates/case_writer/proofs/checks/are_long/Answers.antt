use native.Mathlib.Omega.{arith}
use Rattle.std.proofs.lemmas.Bool.Decides.{nat_tests}
use Rattle.case_contents.specs.Refusals.{long_as}
use Rattle.case_writer.proofs.checks.are_long.Goals as goal

pub returns-then-pressures-n : goal.returns-then-pressures-n
unfolding long_as
returns-then-pressures-n c = grind (arith, nat_tests)

pub returns-else-pressures-n : goal.returns-else-pressures-n
unfolding long_as
returns-else-pressures-n c = grind (arith, nat_tests)
