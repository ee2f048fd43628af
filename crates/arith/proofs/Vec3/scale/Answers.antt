use Rattle.arith.specs.Vec.{times}
use Rattle.std.proofs.Common.{refl}
use Rattle.arith.proofs.Vec3.scale.Goals as goal

pub returns : goal.returns
unfolding times
returns c = refl
