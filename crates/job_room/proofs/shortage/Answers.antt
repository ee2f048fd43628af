use mathlib.Core.Path.{sym, ◌∙◌}
use Rattle.job_room.proofs.StepLaws.{short-area, short-marks, short-requests, short-answers, short-nothing}
use Rattle.job_room.proofs.shortage.Goals as goal

pub returns-then-is_short : goal.returns-then-is_short
returns-then-is_short c = short-area _ _ _ _ _ _ _ _ c.is_short.ensures c.if-is_short.true

pub returns-then-marks-n : goal.returns-then-marks-n
returns-then-marks-n c = short-marks _ _ _ _ _ _ _ _ c.is_short.ensures c.if-is_short.false c.if-marks-n.true

pub returns-then-are_wrong : goal.returns-then-are_wrong
returns-then-are_wrong c =
    short-requests _ _ _ _ _ _ _ _ c.is_short.ensures c.if-is_short.false c.if-marks-n.false
    (sym c.are_wrong.ensures ∙ c.if-are_wrong.true)

pub returns-then-answers-requests : goal.returns-then-answers-requests
returns-then-answers-requests c =
    short-answers _ _ _ _ _ _ _ _ c.is_short.ensures c.if-is_short.false c.if-marks-n.false
    (sym c.are_wrong.ensures ∙ c.if-are_wrong.false) c.if-answers-requests.true

pub returns : goal.returns
returns c =
    short-nothing _ _ _ _ _ _ _ _ c.is_short.ensures c.if-is_short.false c.if-marks-n.false
    (sym c.are_wrong.ensures ∙ c.if-are_wrong.false) c.if-answers-requests.false
