use native.Mathlib.Omega.{arith}
use Rattle.std.proofs.lemmas.Bool.Decides.{nat_tests}
use Rattle.case_file.specs.Trailer.{over_limit}
use Rattle.case_file.proofs.trailer.is_over.Goals as goal

pub returns-then-n-gt16384 : goal.returns-then-n-gt16384
unfolding over_limit
returns-then-n-gt16384 c = grind (arith, nat_tests)

pub returns-else-n-gt16384 : goal.returns-else-n-gt16384
unfolding over_limit
returns-else-n-gt16384 c = grind (arith, nat_tests)
