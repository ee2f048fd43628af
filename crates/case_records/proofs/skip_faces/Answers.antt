use mathlib.Core.Path.{◌∙◌}
use Rattle.std.proofs.lemmas.Result.{err_from_is_err_and}
use Rattle.case_definitions.proofs.WalkLaws.{skip-end}
use Rattle.case_records.proofs.EndLaws.{skip-short, skip-within, skip-next}
use Rattle.case_records.proofs.skip_faces.Goals as goal

pub returns-in_err-at : goal.returns-in_err-at
returns-in_err-at c =
    let p = err_from_is_err_and c.from_residual.result c.from_residual.ensures.1 in
    rw (p.1, p.2)
    (skip-short c.args.words.now c.args.n c.loop.counter c.loop.at _ _ c.loop-test.true c.list_end.ensures c.loop.invariant.1 _ c.in_err-at.was)

pub loop-preserved : goal.loop-preserved
loop-preserved c = (
  skip-within c.args.words.now c.args.n c.loop.counter c.loop.at _ _ c.loop-test.true c.list_end.ensures c.loop.invariant.1 _ c.in_ok-at.was,
  skip-next c.args.words.now c.args.n c.loop.counter c.loop.at _ _ c.loop-test.true c.list_end.ensures c.loop.invariant.1 _ c.in_ok-at.was,
)

pub returns : goal.returns
returns c = skip-end _ _ _ _ c.loop-test.false c.loop.invariant.0 ∙ c.loop.invariant.1
