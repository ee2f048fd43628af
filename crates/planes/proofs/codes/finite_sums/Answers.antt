use Rattle.std.proofs.Common.{rules}
use Rattle.planes_sums.specs.Statistics.{finite_sums}
use Rattle.planes.proofs.codes.finite_sums.Goals as goal

pub returns-then-is_finite-2 : goal.returns-then-is_finite-2
unfolding finite_sums
returns-then-is_finite-2 c = search rules

pub returns-else-is_finite-2 : goal.returns-else-is_finite-2
unfolding finite_sums
returns-else-is_finite-2 c = search rules
