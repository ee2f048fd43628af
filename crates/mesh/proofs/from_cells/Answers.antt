use mathlib.Core.Path.{sym, ◌∙◌}
use Rattle.std.proofs.lemmas.Result.{err_from_is_err_and}
use Rattle.case_file.proofs.TrailerLaws.{opens}
use Rattle.case_survey.proofs.Laws.{survey-case, survey-refused, faces-few}
use Rattle.mesh.proofs.Laws.{area-long, short-area, long-area, faces-all, mesh-shut, built-as, barred}
use native.Mathlib.Omega.{arith}
use Rattle.mesh.proofs.from_cells.Goals as goal

pub is_short-requires : goal.is_short-requires
is_short-requires c =
    let k = survey-case _ _ c.survey.ensures c.in_ok-n.was in
    let few = faces-few _ _ _ k.opens k.right in
    let o = opens _ _ k.opens in
    (omega (arith, k.count), omega arith)

pub returns-then-is_short : goal.returns-then-is_short
returns-then-is_short c =
    let k = survey-case _ _ c.survey.ensures c.in_ok-n.was in
    barred (short-area _ _ k.ds k.opens k.right k.zones _ _ (sym (c.is_short.ensures k.ds k.count) ∙ c.if-is_short.true))

pub build-requires : goal.build-requires
build-requires c =
    let k = survey-case _ _ c.survey.ensures c.in_ok-n.was in
    let a = area-long _ _ _ _ k.ds k.count (sym (c.is_short.ensures k.ds k.count) ∙ c.if-is_short.false) in
    record { opens = k.opens; defs = k.ds; right = k.right; counted = k.count; long-words = a.words_long; long-floats = a.floats-long }

pub returns-in_err-n : goal.returns-in_err-n
returns-in_err-n c =
    let p = err_from_is_err_and c.from_residual.result c.from_residual.ensures.1 in
    rw (p.1, p.2) (barred (mesh-shut _ _ _ _ (survey-refused _ c.survey.ensures c.in_err-n.was)))

pub returns : goal.returns
returns c =
    let k = survey-case _ _ c.survey.ensures c.in_ok-n.was in
    let o = opens _ _ k.opens in
    rw (← o.same)
    (built-as (sym (long-area _ _ k.ds k.opens k.right k.zones _ _ (sym (c.is_short.ensures k.ds k.count) ∙ c.if-is_short.false)))
    (k.count ∙ faces-all _ _ k.ds k.opens k.right k.zones 0 0) (c.build.ensures k.ds k.right))
