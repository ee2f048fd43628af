use Rattle.std.proofs.Common.{sym, ◌∙◌}
use Rattle.arith.specs.F64.{nearer}
use Rattle.arith.proofs.float.nearer.Goals as goal

pub returns-then-a-b : goal.returns-then-a-b
unfolding nearer
returns-then-a-b c = rw c.if-a-b.true

pub returns-then-not-is_nan : goal.returns-then-not-is_nan
unfolding nearer
returns-then-not-is_nan c = rw (c.if-a-b.false, sym c.is_nan.ensures.value ∙ c.if-not-is_nan.true) c.is_nan-then-not-is_nan.ensures.value

pub returns-else-not-is_nan : goal.returns-else-not-is_nan
unfolding nearer
returns-else-not-is_nan c = rw (c.if-a-b.false, sym c.is_nan.ensures.value, c.if-not-is_nan.false)
