use native.Mathlib.Omega.{arith}
use Rattle.std.proofs.lemmas.Bool.Decides.{nat_tests}
use Rattle.job_requests.specs.Requests.{search_of}
use Rattle.job_requests.proofs.search_of.Goals as goal

pub returns-then-code-eq13 : goal.returns-then-code-eq13
unfolding search_of
returns-then-code-eq13 c = grind (arith, nat_tests)

pub returns-else-code-eq13 : goal.returns-else-code-eq13
unfolding search_of
returns-else-code-eq13 c = grind (arith, nat_tests)
