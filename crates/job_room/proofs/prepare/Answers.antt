use mathlib.Core.Path.{refl}
use native.Mathlib.Omega.{arith}
use Rattle.std.proofs.lemmas.Result.{err_from_is_err_and}
use Rattle.case_file.proofs.TrailerLaws.{opens}
use Rattle.case_survey.proofs.Laws.{survey-refused, survey-case, faces-few}
use Rattle.job_room.specs.Ensures.{barred}
use Rattle.job_room.proofs.Laws.{prepared-shut}
use Rattle.job_room.proofs.StepLaws.{prepare-short, prepare-ready, buildable}
use Rattle.job_room.proofs.prepare.Goals as goal

pub shortage-requires : goal.shortage-requires
shortage-requires c =
    let k = survey-case _ _ c.survey.ensures c.in_ok-n.was in
    let few = faces-few _ _ _ k.opens k.right in
    let o = opens _ _ k.opens in
    (omega (arith, few, k.count), o.cells)

pub returns-in_err-shortage : goal.returns-in_err-shortage
returns-in_err-shortage c =
    let p = err_from_is_err_and c.from_residual-in_err-shortage.result c.from_residual-in_err-shortage.ensures.1 in
    rw (p.1, p.2) (let k = survey-case _ _ c.survey.ensures c.in_ok-n.was in prepare-short _ _ _ _ _ k _ c.shortage.ensures _ _ _ c.in_err-shortage.was)

pub build_room-requires : goal.build_room-requires
build_room-requires c =
    let k = survey-case _ _ c.survey.ensures c.in_ok-n.was in
    buildable _ _ _ _ _ k _ c.shortage.ensures c.in_ok-shortage.was _ _ refl refl

pub returns-in_err-n : goal.returns-in_err-n
returns-in_err-n c =
    let p = err_from_is_err_and c.from_residual.result c.from_residual.ensures.1 in
    rw (p.1, p.2) (barred (prepared-shut _ _ _ _ (survey-refused _ c.survey.ensures c.in_err-n.was)))

pub returns : goal.returns
returns c =
    let k = survey-case _ _ c.survey.ensures c.in_ok-n.was in
    prepare-ready _ _ _ _ _ k _ c.shortage.ensures c.in_ok-shortage.was (c.build_room.ensures k.ds k.right)
