use Rattle.lines_step.proofs.StepLaws.{kept-too-long, kept_on, kept-endless}
use Rattle.lines_step.proofs.within_length.Goals as goal

pub returns-then-total-segment : goal.returns-then-total-segment
returns-then-total-segment c =
    let a = c.args in
    kept-too-long a.longest a.total _ _ _ _ _ c.sub.ensures c.norm-segment.ensures c.is_finite.ensures c.if-is_finite.true c.if-total-segment.true

pub returns-then-is_finite : goal.returns-then-is_finite
returns-then-is_finite c =
    let a = c.args in
    kept_on a.longest a.total _ _ _ _ _ c.sub.ensures c.norm-segment.ensures c.is_finite.ensures c.if-is_finite.true c.if-total-segment.false

pub returns : goal.returns
returns c = kept-endless _ _ _ _ _ _ _ c.sub.ensures c.norm-segment.ensures c.is_finite.ensures c.if-is_finite.false
