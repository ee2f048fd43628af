use Rattle.arith.specs.Bytes.{le64}
use Rattle.std.proofs.Common.{rules}
use Rattle.arith.proofs.bytes.u64_at.Goals as goal

pub returns : goal.returns
unfolding le64
returns c = search rules
