use Rattle.std.proofs.Common.{rules}
use Rattle.planes_cut.specs.Plane.{invalid}
use Rattle.planes_cut.proofs.axes.invalid.Goals as goal

pub returns-then-not_unit-2 : goal.returns-then-not_unit-2
unfolding invalid
returns-then-not_unit-2 c = search rules

pub returns-else-not_unit-2 : goal.returns-else-not_unit-2
unfolding invalid
returns-else-not_unit-2 c = search rules
