use native.Mathlib.Omega.{arith}
use mathlib.Core.Path.{refl}
use Rattle.arith.proofs.Counts.{whole_in}
use Rattle.mesh_averages.specs.Averages.{average}
use Rattle.mesh_averages.proofs.average_point.Goals as goal

pub int_to_float-vertices : goal.int_to_float-vertices
int_to_float-vertices c = whole_in _ (omega arith)

pub returns : goal.returns
unfolding average
returns c = rw (c.div.ensures, c.point_sum.ensures) refl
