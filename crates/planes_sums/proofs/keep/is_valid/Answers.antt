use Rattle.std.proofs.Common.{rules}
use Rattle.planes_sums.specs.Integrals.{is_valid}
use Rattle.planes_sums.proofs.keep.is_valid.Goals as goal

pub returns-then-is_finite-2 : goal.returns-then-is_finite-2
unfolding is_valid
returns-then-is_finite-2 c = search rules

pub returns-else-is_finite-2 : goal.returns-else-is_finite-2
unfolding is_valid
returns-else-is_finite-2 c = search rules
