use Rattle.arith.specs.Vec.{over}
use Rattle.std.proofs.Common.{refl}
use Rattle.arith.proofs.Vec3.div.Goals as goal

pub returns : goal.returns
unfolding over
returns c = refl
