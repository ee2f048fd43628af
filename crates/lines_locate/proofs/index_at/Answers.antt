use native.Mathlib.Omega.{arith}
use Rattle.lines_locate.proofs.RangeLaws.{index-half, index-whole, index-last}
use Rattle.lines_locate.proofs.index_at.Goals as goal

pub returns-then-as_float-w : goal.returns-then-as_float-w
returns-then-as_float-w c =
    (index-half _ _ _ c.requires.1 c.if-k-n.true (rw (← c.as_float.ensures) c.if-as_float-w.true), omega arith)

pub returns-else-as_float-w : goal.returns-else-as_float-w
returns-else-as_float-w c =
    (index-whole _ _ _ c.requires.1 c.if-k-n.true (rw (← c.as_float.ensures) c.if-as_float-w.false), omega arith)

pub returns-else-k-n : goal.returns-else-k-n
returns-else-k-n c = (index-last _ _ _ c.requires.1 c.if-k-n.false, omega arith)
