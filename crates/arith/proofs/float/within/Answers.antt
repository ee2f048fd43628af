use Rattle.arith.specs.F64.{within}
use Rattle.arith.proofs.float.within.Goals as goal

pub returns : goal.returns
unfolding within
returns c = rw c.abs.ensures
