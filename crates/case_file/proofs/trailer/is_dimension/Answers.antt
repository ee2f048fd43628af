use native.Mathlib.Omega.{arith}
use Rattle.std.proofs.lemmas.Bool.Decides.{nat_tests}
use Rattle.case_file.specs.Trailer.{is_dimension}
use Rattle.case_file.proofs.trailer.is_dimension.Goals as goal

pub returns-then-d-eq2 : goal.returns-then-d-eq2
unfolding is_dimension
returns-then-d-eq2 c = grind (arith, nat_tests)

pub returns-else-d-eq2 : goal.returns-else-d-eq2
unfolding is_dimension
returns-else-d-eq2 c = grind (arith, nat_tests)
