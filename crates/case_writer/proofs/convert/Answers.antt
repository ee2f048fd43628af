use mathlib.Core.Path.{sym, ◌∙◌}
use Rattle.std.proofs.lemmas.Result.{err_from_is_err_and}
use Rattle.case_survey.proofs.Laws.{survey-refused, survey-case, survey-right}
use Rattle.case_writer.proofs.FileLaws.{slice-bytes, convert-refused, no-edition, short-file, same-edition, unread, zones-lost, converts}
use Rattle.case_writer.proofs.convert.Goals as goal

pub returns-then-not-is_edition : goal.returns-then-not-is_edition
returns-then-not-is_edition c =
    let b = (slice-bytes c.args.case.now c.type_inv.case) in
    convert-refused _ _ b _ _ (no-edition _ _ b _ (sym c.is_edition.ensures ∙ c.if-not-is_edition.true))

pub returns-then-case-lt32 : goal.returns-then-case-lt32
returns-then-case-lt32 c =
    let b = (slice-bytes c.args.case.now c.type_inv.case) in
    convert-refused _ _ b _ _ (short-file _ _ b _ (sym c.is_edition.ensures ∙ c.if-not-is_edition.false) c.if-case-lt32.true)

pub returns-then-edition_of-edition : goal.returns-then-edition_of-edition
returns-then-edition_of-edition c =
    let b = (slice-bytes c.args.case.now c.type_inv.case) in
    convert-refused _ _ b _ _ (same-edition _ _ b _ (sym c.is_edition.ensures ∙ c.if-not-is_edition.false) (sym c.edition_of.ensures ∙ c.if-edition_of-edition.true))

pub loses_zones-requires : goal.loses_zones-requires
loses_zones-requires c = (survey-case _ _ c.survey.ensures c.in_ok-n.was).opens

pub returns-then-loses_zones : goal.returns-then-loses_zones
returns-then-loses_zones c =
    let b = (slice-bytes c.args.case.now c.type_inv.case) in
    let s = survey-case _ _ c.survey.ensures c.in_ok-n.was in
    convert-refused _ _ b _ _ (zones-lost _ _ b _ (sym c.is_edition.ensures ∙ c.if-not-is_edition.false) (λ g. c.if-edition_of-edition.false (c.edition_of.ensures ∙ g)) _ (survey-right _ _ s.opens _ s.right s.zones) (sym c.loses_zones.ensures ∙ c.if-loses_zones.true))

pub put_copy-requires : goal.put_copy-requires
put_copy-requires c =
    let s = survey-case _ _ c.survey.ensures c.in_ok-n.was in
    record { opens = s.opens; survey = _; accepted = survey-right _ _ s.opens _ s.right s.zones; edition = (sym c.is_edition.ensures ∙ c.if-not-is_edition.false) }

pub returns-in_err-n : goal.returns-in_err-n
returns-in_err-n c =
    let b = (slice-bytes c.args.case.now c.type_inv.case) in
    let p = err_from_is_err_and c.from_residual.result c.from_residual.ensures.1 in
    rw (p.1, p.2)
    (convert-refused _ _ b _ _ (unread _ _ b _ (sym c.is_edition.ensures ∙ c.if-not-is_edition.false) (λ g. c.if-edition_of-edition.false (c.edition_of.ensures ∙ g)) _ (survey-refused _ c.survey.ensures c.in_err-n.was)))

pub returns : goal.returns
returns c =
    let s = survey-case _ _ c.survey.ensures c.in_ok-n.was in
    converts _ _ (slice-bytes c.args.case.now c.type_inv.case) (sym c.is_edition.ensures ∙ c.if-not-is_edition.false) (λ g. c.if-edition_of-edition.false (c.edition_of.ensures ∙ g)) _ (survey-right _ _ s.opens _ s.right s.zones) (sym c.loses_zones.ensures ∙ c.if-loses_zones.false) _ _ _ c.put_copy.ensures
