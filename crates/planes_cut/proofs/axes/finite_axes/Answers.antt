use Rattle.std.proofs.Common.{rules}
use Rattle.planes_cut.specs.Plane.{finite_axes}
use Rattle.planes_cut.proofs.axes.finite_axes.Goals as goal

pub returns-then-is_finite-2 : goal.returns-then-is_finite-2
unfolding finite_axes
returns-then-is_finite-2 c = search rules

pub returns-else-is_finite-2 : goal.returns-else-is_finite-2
unfolding finite_axes
returns-else-is_finite-2 c = search rules
