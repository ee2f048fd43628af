use Rattle.arith.specs.Vec.{cross}
use Rattle.std.proofs.Common.{refl}
use Rattle.arith.proofs.Vec3.cross.Goals as goal

pub returns : goal.returns
unfolding cross
returns c = refl
