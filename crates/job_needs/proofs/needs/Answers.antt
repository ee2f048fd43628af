use native.Mathlib.Omega.{arith}
use lib.ListN.{length-set}
use Rattle.std.proofs.lemmas.Result.{err_from_is_err_and}
use Rattle.case_survey.proofs.Laws.{survey-case, survey-refused}
use Rattle.job_needs.proofs.Laws.{refused-told, few, no_place, stored}
use Rattle.job_needs.proofs.needs.Goals as goal

pub returns-in_err-n : goal.returns-in_err-n
returns-in_err-n c =
    let told = refused-told _ _ (survey-refused _ c.survey.ensures c.in_err-n.was) _ in
    let p = err_from_is_err_and c.from_residual.result c.from_residual.ensures.1 in
    rw (p.1, p.2) (record { value = told.0; needs_after = told.1 })

pub returns-then-needs-lt3 : goal.returns-then-needs-lt3
returns-then-needs-lt3 c =
    let s = survey-case _ _ c.survey.ensures c.in_ok-n.was in
    let told = no_place _ _ _ s _ c.if-needs-lt3.true in
    record { value = told.0; needs_after = told.1 }

pub overflow_mul-needs : goal.overflow_mul-needs
overflow_mul-needs c = let h = few _ _ _ (survey-case _ _ c.survey.ensures c.in_ok-n.was) in omega (arith, h.0, h.1)

pub overflow_mul-needs-2 : goal.overflow_mul-needs-2
overflow_mul-needs-2 c = let h = few _ _ _ (survey-case _ _ c.survey.ensures c.in_ok-n.was) in omega (arith, h.0, h.1)

pub overflow_add-needs : goal.overflow_add-needs
overflow_add-needs c = let h = few _ _ _ (survey-case _ _ c.survey.ensures c.in_ok-n.was) in omega (arith, h.0, h.1)

pub overflow_mul-needs-3 : goal.overflow_mul-needs-3
overflow_mul-needs-3 c = let h = few _ _ _ (survey-case _ _ c.survey.ensures c.in_ok-n.was) in omega (arith, h.0, h.1)

pub overflow_mul-needs-4 : goal.overflow_mul-needs-4
overflow_mul-needs-4 c = let h = few _ _ _ (survey-case _ _ c.survey.ensures c.in_ok-n.was) in omega (arith, h.0, h.1)

pub overflow_add-needs-2 : goal.overflow_add-needs-2
overflow_add-needs-2 c = let h = few _ _ _ (survey-case _ _ c.survey.ensures c.in_ok-n.was) in omega (arith, h.0, h.1)

pub bounds-needs-1 : goal.bounds-needs-1
bounds-needs-1 c = simp length-set (omega arith)

pub returns : goal.returns
returns c =
    let s = survey-case _ _ c.survey.ensures c.in_ok-n.was in
    let told = stored _ _ _ s _ c.if-needs-lt3.false in
    record { value = told.0; needs_after = told.1 }
