use mathlib.Core.Path.{sym, ◌∙◌}
use native.Mathlib.Omega.{arith}
use Rattle.std.proofs.lemmas.Result.{err_from_is_err_and}
use Rattle.case_file.specs.Trailer.{words_from}
use Rattle.case_file.proofs.TrailerLaws.{opens}
use Rattle.case_definitions.proofs.Walking.{walks}
use Rattle.case_survey.specs.Ensures.{surveyed, refusing}
use Rattle.case_survey.proofs.Laws.{survey-shut, survey-wrong, survey-zoned, walked-wrong, words_same}
use Rattle.case_survey.proofs.survey.Goals as goal

pub returns-in_err-n : goal.returns-in_err-n
returns-in_err-n c =
    let p = err_from_is_err_and c.from_residual.result c.from_residual.ensures.1 in
    rw (p.1, p.2) (refusing (survey-shut _ _ (sym c.in_err-n.ensures)))

pub words-requires : goal.words-requires
unfolding words_from
words-requires c = let o = opens _ _ (sym c.in_ok-n.ensures) in omega arith

pub zones_within-requires : goal.zones_within-requires
zones_within-requires c = sym c.in_ok-n.ensures

pub returns-in_err-faces : goal.returns-in_err-faces
returns-in_err-faces c =
    let o = sym c.in_ok-n.ensures in
    let w = c.in_err-faces.ensures in
    let p = err_from_is_err_and c.from_residual-in_err-faces.result c.from_residual-in_err-faces.ensures.1 in
    rw (p.1, p.2) (refusing (survey-wrong _ _ o _ (walked-wrong _ _ (rw (words_same _ _ o _ c.words.ensures) at w))))

pub returns-then-not-zones_within : goal.returns-then-not-zones_within
returns-then-not-zones_within c =
    let o = sym c.in_ok-n.ensures in
    let w = c.in_ok-faces.ensures in
    let k = walks _ _ _ (rw (words_same _ _ o _ c.words.ensures) at w) in
    refusing (survey-zoned _ _ o _ k.read (sym c.zones_within.ensures ∙ c.if-not-zones_within.true))

pub returns : goal.returns
returns c =
    let o = sym c.in_ok-n.ensures in
    let w = c.in_ok-faces.ensures in
    let k = walks _ _ _ (rw (words_same _ _ o _ c.words.ensures) at w) in
    surveyed o k.read (sym c.zones_within.ensures ∙ c.if-not-zones_within.false) k.count
