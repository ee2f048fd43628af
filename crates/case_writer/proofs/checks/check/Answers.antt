use mathlib.Core.Path.{sym, ◌∙◌}
use Rattle.std.proofs.lemmas.Result.{err_from_is_err_and}
use Rattle.case_writer.proofs.CheckLaws.{check-flat, check-edition, check-short, check-over, check-words, check-zones}
use Rattle.case_writer.proofs.checks.check.Goals as goal

pub returns-then-not-is_dimension : goal.returns-then-not-is_dimension
returns-then-not-is_dimension c = check-flat _ _ _ _ _ _ (sym c.is_dimension.ensures ∙ c.if-not-is_dimension.true)

pub returns-then-not-is_edition : goal.returns-then-not-is_edition
returns-then-not-is_edition c = check-edition _ _ _ _ _ _ (sym c.is_dimension.ensures ∙ c.if-not-is_dimension.false) (sym c.is_edition.ensures ∙ c.if-not-is_edition.true)

pub returns-then-not-are_long : goal.returns-then-not-are_long
returns-then-not-are_long c = check-short _ _ _ _ _ _ (sym c.is_dimension.ensures ∙ c.if-not-is_dimension.false) (sym c.is_edition.ensures ∙ c.if-not-is_edition.false) (sym c.are_long.ensures ∙ c.if-not-are_long.true)

pub returns-then-is_over : goal.returns-then-is_over
returns-then-is_over c = check-over _ _ _ _ _ _ (sym c.is_dimension.ensures ∙ c.if-not-is_dimension.false) (sym c.is_edition.ensures ∙ c.if-not-is_edition.false) (sym c.are_long.ensures ∙ c.if-not-are_long.false) (sym c.is_over.ensures ∙ c.if-is_over.true)

pub returns-in_err-walk : goal.returns-in_err-walk
returns-in_err-walk c =
    let p = err_from_is_err_and c.from_residual.result c.from_residual.ensures.1 in
    rw (p.1, p.2)
    (check-words _ _ _ _ _ _ (sym c.is_dimension.ensures ∙ c.if-not-is_dimension.false) (sym c.is_edition.ensures ∙ c.if-not-is_edition.false) (sym c.are_long.ensures ∙ c.if-not-are_long.false) (sym c.is_over.ensures ∙ c.if-is_over.false) _ c.in_err-walk.ensures)

pub returns : goal.returns
returns c = c.check_zones.ensures ∙ check-zones _ _ _ _ _ _ (sym c.is_dimension.ensures ∙ c.if-not-is_dimension.false) (sym c.is_edition.ensures ∙ c.if-not-is_edition.false) (sym c.are_long.ensures ∙ c.if-not-are_long.false) (sym c.is_over.ensures ∙ c.if-is_over.false) c.in_ok-walk.ensures
