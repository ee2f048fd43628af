use native.Mathlib.Omega.{arith}
use Rattle.arith_root.proofs.Fields.{shift, shift_from, unpack-0, unpack-1}
use Rattle.arith_root.proofs.unpack.Goals as goal

pub overflow_cast-s : goal.overflow_cast-s
overflow_cast-s c = omega (arith, shift c.args.b c.requires.0 c.if-e-eq0.true)

pub overflow_sub-s : goal.overflow_sub-s
overflow_sub-s c = omega (arith, shift_from c.args.b c.requires.0 c.if-e-eq0.true)

pub overflow_shl-result : goal.overflow_shl-result
overflow_shl-result c = omega (arith, shift c.args.b c.requires.0 c.if-e-eq0.true)

pub overflow_sub-result : goal.overflow_sub-result
overflow_sub-result c = omega (arith, shift c.args.b c.requires.0 c.if-e-eq0.true)

pub returns-then-e-eq0 : goal.returns-then-e-eq0
returns-then-e-eq0 c = unpack-0 c.args.b c.requires.0 c.if-e-eq0.true

pub returns-else-e-eq0 : goal.returns-else-e-eq0
returns-else-e-eq0 c = unpack-1 c.args.b c.requires.1 c.if-e-eq0.false
