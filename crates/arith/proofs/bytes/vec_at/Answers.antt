use Rattle.arith.specs.Bytes.{vec_at}
use Rattle.arith.proofs.bytes.vec_at.Goals as goal

pub returns : goal.returns
unfolding vec_at
returns c = rw (c.float_at-z.ensures, c.float_at-y.ensures, c.float_at-x.ensures)
