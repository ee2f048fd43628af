use Rattle.arith.specs.Bytes.{float_at}
use Rattle.std.proofs.Common.{ap, ◌∙◌}
use Rattle.arith.specs.F64.{float}
use Rattle.arith.proofs.bytes.float_at.Goals as goal

pub returns : goal.returns
unfolding float_at
returns c = c.float_of.ensures ∙ ap float c.u64_at.ensures
