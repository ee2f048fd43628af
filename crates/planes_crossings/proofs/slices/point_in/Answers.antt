use mathlib.Core.Path.{refl}
use Rattle.planes_crossings.specs.Ensures.{point_in}
use Rattle.planes_crossings.proofs.slices.point_in.Goals as goal

pub returns : goal.returns
unfolding point_in
returns c = refl
