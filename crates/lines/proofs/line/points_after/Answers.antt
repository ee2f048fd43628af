use Rattle.lines.proofs.LineLaws.{begun, turned, ended, finished, drawn}
use Rattle.lines.proofs.LocateLaws.{near, step-locates}
use Rattle.lines_words.specs.Pen.{words_along, pen_along}
use Rattle.lines_words.proofs.PenLaws.{after_kept, turned-pen, turned-words}
use Rattle.arith.specs.Lists.{fold}
use mathlib.Core.List.{[], ◌∷◌, ◌++◌}
use mathlib.Core.Path.{refl, ◌∙◌}
use native.Mathlib.Omega.{arith}
use Rattle.lines.proofs.line.points_after.Goals as goal

pub loop-init : goal.loop-init
unfolding words_along pen_along fold
loop-init c = record { done = []; few = omega arith; place = refl; written = refl; drawn-by = refl; going = begun _ _ _ _ _ _ }

pub returns-in-Ended : goal.returns-in-Ended
returns-in-Ended c =
    let i = c.loop.invariant in
    drawn _ _ _ c.sign.ensures
    (ended i.done (rw c.in-Ended.is at (turned _ _ _ i.done _ _ _ _ c.loop-test.true i.going c.line_step-next.ensures)))
    i.written i.drawn-by (omega (arith, i.few, c.requires.at_bound))

pub put_point-pen-requires : goal.put_point-pen-requires
put_point-pen-requires c =
    let i = c.loop.invariant in
    let entry = c.requires in (
      record { low = omega (arith, i.place, entry.at_bound); few = omega (arith, i.few, c.loop-test.true, entry.at_bound) },
      near _ _ entry.tracer_entry.within (step-locates _ _ _ _ _ _ c.line_step-next.ensures.answer c.in-Next.is),
    )

pub loop-preserved : goal.loop-preserved
loop-preserved c =
    let i = c.loop.invariant in
    let put = c.put_point-pen.ensures in
    let k = after_kept c.loop.pen c.in-Next.q in
    record {
      done = i.done ++ c.in-Next.q ∷ [];
      few = rw put.pen-after (omega (arith, i.few, k.few));
      place = rw put.pen-after (k.at ∙ i.place);
      written = turned-words _ i.done c.in-Next.q i.drawn-by put _ i.written;
      drawn-by = turned-pen _ i.done c.in-Next.q i.drawn-by put;
      going = rw c.in-Next.is at (turned _ _ _ i.done _ _ _ _ c.loop-test.true i.going c.line_step-next.ensures);
    }

pub returns : goal.returns
returns c =
    let i = c.loop.invariant in
    drawn _ _ _ c.sign.ensures (finished _ _ _ i.done _ _ _ (omega arith) i.going) i.written i.drawn-by
    (omega (arith, i.few, c.requires.at_bound))
