use Rattle.arith.specs.Bytes.{le32}
use Rattle.std.proofs.Common.{arith}
use Rattle.arith.proofs.bytes.word_at.Goals as goal

pub returns : goal.returns
unfolding le32
returns c = omega (arith, c.from_le_bytes.ensures)
