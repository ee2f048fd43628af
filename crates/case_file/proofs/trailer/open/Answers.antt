use mathlib.Core.Path.{sym, ◌∙◌}
use Rattle.case_file.proofs.TrailerLaws.{open-short, open-flat, open-wrong, open-over, open-case}
use Rattle.case_file.proofs.trailer.open.Goals as goal

pub returns-then-case-lt32 : goal.returns-then-case-lt32
returns-then-case-lt32 c = open-short _ c.if-case-lt32.true

pub returns-then-not-is_dimension : goal.returns-then-not-is_dimension
returns-then-not-is_dimension c = open-flat _ c.if-case-lt32.false _ c.counts-n.ensures.same (sym c.is_dimension.ensures ∙ c.if-not-is_dimension.true)

pub returns-then-not-has_parts : goal.returns-then-not-has_parts
returns-then-not-has_parts c =
    open-wrong _ c.if-case-lt32.false _ c.counts-n.ensures.same
    (sym c.is_dimension.ensures ∙ c.if-not-is_dimension.false)
    (sym c.has_parts.ensures ∙ c.if-not-has_parts.true)

pub returns-then-is_over : goal.returns-then-is_over
returns-then-is_over c =
    open-over _ c.if-case-lt32.false _ c.counts-n.ensures.same
    (sym c.is_dimension.ensures ∙ c.if-not-is_dimension.false)
    (sym c.has_parts.ensures ∙ c.if-not-has_parts.false)
    (sym c.is_over.ensures ∙ c.if-is_over.true)

pub returns : goal.returns
returns c =
    open-case _ c.if-case-lt32.false _ c.counts-n.ensures.same
    (sym c.is_dimension.ensures ∙ c.if-not-is_dimension.false)
    (sym c.has_parts.ensures ∙ c.if-not-has_parts.false)
    (sym c.is_over.ensures ∙ c.if-is_over.false)
