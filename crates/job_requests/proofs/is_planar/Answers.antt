use native.Mathlib.Omega.{arith}
use Rattle.std.proofs.lemmas.Bool.Decides.{nat_tests}
use Rattle.job_requests.specs.Requests.{is_planar}
use Rattle.job_requests.proofs.is_planar.Goals as goal

pub returns : goal.returns
unfolding is_planar
returns c = grind (arith, nat_tests)
