use native.Mathlib.Omega.{arith}
use Rattle.lines_field.proofs.LimitLaws.{limit-stored}
use Rattle.lines_build.proofs.build.limit_cell.Goals as goal

pub returns : goal.returns
returns c =
    let long = c.requires.1.long in
    limit-stored _ _ _ _ _ (omega arith) _ _ _ c.floats_at-at.ensures c.count_in.ensures.0 c.limits_of-l.ensures c.put_limits.ensures
