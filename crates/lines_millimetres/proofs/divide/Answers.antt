use native.Mathlib.Nat.{mod-lt, div-le_self}
use native.Mathlib.Omega.{arith}
use Rattle.lines_millimetres.specs.Nearest.{half_of}
use Rattle.lines_millimetres.proofs.WholeLaws.{whole-down, whole-up, whole-half}
use Rattle.lines_millimetres.proofs.divide.Goals as goal

pub overflow_sub-d : goal.overflow_sub-d
overflow_sub-d c = omega (arith, mod-lt c.args.n c.requires.1)

pub returns-then-r-d : goal.returns-then-r-d
returns-then-r-d c = whole-down _ _ _ c.if-r-d.true

pub overflow_sub-d-2 : goal.overflow_sub-d-2
overflow_sub-d-2 c = omega (arith, mod-lt c.args.n c.requires.1)

pub overflow_add-result : goal.overflow_add-result
overflow_add-result c = omega (arith, div-le_self c.args.n c.args.d)

pub returns-then-d-r : goal.returns-then-d-r
returns-then-d-r c = whole-up _ _ _ c.requires.1 c.if-d-r.true

pub overflow_add-result-in-AwayFromZero : goal.overflow_add-result-in-AwayFromZero
overflow_add-result-in-AwayFromZero c = omega (arith, div-le_self c.args.n c.args.d)

pub overflow_add-result-in-ToEven : goal.overflow_add-result-in-ToEven
overflow_add-result-in-ToEven c = omega (arith, div-le_self c.args.n c.args.d)

pub returns-in-AwayFromZero : goal.returns-in-AwayFromZero
unfolding half_of
returns-in-AwayFromZero c = rw c.in-AwayFromZero.is (whole-half _ _ _ c.requires.1 c.if-r-d.false c.if-d-r.false)

pub returns-in-ToEven : goal.returns-in-ToEven
unfolding half_of
returns-in-ToEven c = rw c.in-ToEven.is (whole-half _ _ _ c.requires.1 c.if-r-d.false c.if-d-r.false)
