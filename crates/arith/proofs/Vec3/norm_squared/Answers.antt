use Rattle.arith.specs.Vec.{norm_squared}
use Rattle.arith.proofs.Vec3.norm_squared.Goals as goal

pub returns : goal.returns
unfolding norm_squared
returns c = c.dot.ensures
