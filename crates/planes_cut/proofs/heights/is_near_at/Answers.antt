use Rattle.arith.proofs.Floats.{abs-within}
use Rattle.planes_cut.proofs.heights.is_near_at.Goals as goal

pub returns : goal.returns
returns c = rw abs-within
