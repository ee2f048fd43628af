use Rattle.arith.specs.F64.{clamp}
use Rattle.arith.proofs.float.clamp.Goals as goal

pub returns : goal.returns
unfolding clamp
returns c = c.clamp.ensures.value
