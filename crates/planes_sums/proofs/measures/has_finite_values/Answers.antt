use Rattle.std.proofs.Common.{rules}
use Rattle.planes_sums.specs.Sample.{has_finite_values}
use Rattle.planes_sums.proofs.measures.has_finite_values.Goals as goal

pub returns-then-is_finite : goal.returns-then-is_finite
unfolding has_finite_values
returns-then-is_finite c = search rules

pub returns-else-is_finite : goal.returns-else-is_finite
unfolding has_finite_values
returns-else-is_finite c = search rules
