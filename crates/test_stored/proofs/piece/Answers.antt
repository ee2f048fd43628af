use native.Mathlib.Omega.{arith}
use Rattle.test_stored.proofs.PieceLaws.{added}
use Rattle.test_stored.proofs.piece.Goals as goal

-- `test_stored::piece`: the bytes stand from `from` on, and are repeated up to the end. Assumes nothing.
pub returns : goal.returns
returns c =
    added c.args.room.now c.read_exact.new.buf c.repeat.new.room c.args.from c.number-n.result c.number-end.result c.max.result c.number-n.ensures.0 c.requires
    c.read_exact.auto.buf c.repeat.ensures c.max.ensures (omega arith)
