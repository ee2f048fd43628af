use Rattle.arith.specs.Vec.{minus}
use Rattle.std.proofs.Common.{refl}
use Rattle.arith.proofs.Vec3.sub.Goals as goal

pub returns : goal.returns
unfolding minus
returns c = refl
