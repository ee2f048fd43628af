use Rattle.arith.specs.Vec.{dot}
use Rattle.std.proofs.Common.{refl}
use Rattle.arith.proofs.Vec3.dot.Goals as goal

pub returns : goal.returns
unfolding dot
returns c = refl
