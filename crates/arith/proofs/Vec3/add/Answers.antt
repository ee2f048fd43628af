use Rattle.arith.specs.Vec.{plus}
use Rattle.std.proofs.Common.{refl}
use Rattle.arith.proofs.Vec3.add.Goals as goal

pub returns : goal.returns
unfolding plus
returns c = refl
