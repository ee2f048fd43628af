use mathlib.Core.Path.{◌∙◌}
use Prim.Native.Nat.{◌^◌, ◌<◌}
use native.Mathlib.Nat.{lt_of_le_of_lt}
use native.Mathlib.Omega.{arith}
use lib.Dec.{lit<}
use Rattle.lines_millimetres.proofs.WholeLaws.{whole_le}
use Rattle.lines_millimetres.proofs.PatternLaws.{small_is, num, num-lt, den_pos, large_is}
use Rattle.lines_millimetres.proofs.times.Goals as goal

limit : (c : goal.Else-e-lt1012) → num c.args.rounding c.args.b c.args.factor c.requires.1 < 2 ^ 63
limit c = num-lt c.args.rounding c.args.b c.args.factor c.requires.1

pub returns-then-e-lt1012 : goal.returns-then-e-lt1012
returns-then-e-lt1012 c = (small_is _ _ _ c.requires.1 c.if-e-lt1012.true, lit< tt)

pub overflow_mul-n : goal.overflow_mul-n
overflow_mul-n c = omega (arith, limit c)

pub divide-requires : goal.divide-requires
divide-requires c = (limit c, den_pos c.args.rounding c.args.b c.args.factor c.requires.1 c.if-e-lt1012.false)

pub returns : goal.returns
returns c =
    let r = c.args.rounding in
    let p = c.requires.1 in
    let l = c.if-e-lt1012.false in
    let e = c.divide.ensures in
    (e ∙ large_is r c.args.b c.args.factor p l c.requires.0, rw e (lt_of_le_of_lt (whole_le r _ _ (den_pos r c.args.b c.args.factor p l)) (limit c.before)))
