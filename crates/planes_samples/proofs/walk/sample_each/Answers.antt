use native.Mathlib.Omega.{arith}
use mathlib.Core.Path.{refl}
use Rattle.planes_samples.proofs.StepLaws.{ready-same, holds_same, turn, turn-size, stopped, all_done}
use borrow.Author.Rules.{rules}
use Rattle.planes_samples.proofs.walk.sample_each.Goals as goal

pub loop-i-init : goal.loop-i-init
loop-i-init c = (search rules, refl)

pub step-requires : goal.step-requires
step-requires c =
    let l = c.loop-i in
    record { sample_entry = (ready-same c.requires.sample_entry.0 l.auto.marks, c.loop-i-test.true); slice_lengths = (holds_same c.requires.slice_lengths.0 l.auto.x l.auto.y l.auto.z, omega (arith, l.invariant.0, c.loop-i-test.true, c.requires.sample_entry.1)) }

pub returns-in_err-tally : goal.returns-in_err-tally
returns-in_err-tally c =
    rw c.from_residual.ensures (stopped _ _ _ _ _ _ _ _ _ _ c.loop-i.invariant.1 c.loop-i-test.true _ _ _ c.step.ensures c.in_err-tally.was)

pub loop-i-preserved : goal.loop-i-preserved
loop-i-preserved c =
    let l = c.loop-i in
    let more = c.loop-i-test.true in
    (turn-size _ _ _ _ _ _ _ _ _ _ l.invariant.1 more _ _ _ c.step.ensures _ c.in_ok-tally.was l.invariant.0, turn _ _ _ _ _ _ _ _ _ _ l.invariant.1 more _ _ _ c.step.ensures _ c.in_ok-tally.was)

pub returns : goal.returns
returns c = all_done _ _ _ _ _ _ _ _ _ _ c.loop-i.invariant.1 c.loop-i-test.false
