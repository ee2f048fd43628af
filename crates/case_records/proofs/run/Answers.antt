use native.Mathlib.Omega.{arith}
use Rattle.case_definitions.proofs.AlikeLaws.{run_none}
use Rattle.case_records.proofs.RunLaws.{run_past, run-within, run-starts, run-next}
use Rattle.case_records.proofs.run.Goals as goal

pub overflow_sub-size : goal.overflow_sub-size
overflow_sub-size c = run_past c.args.words.now c.args.from _ c.requires

pub offset_bounds-words-from : goal.offset_bounds-words-from
offset_bounds-words-from c =
    let b = run-within c.args.words.now c.args.from _ c.requires in
    omega arith

pub bounds-words-from : goal.bounds-words-from
bounds-words-from c =
    let b = run-within c.args.words.now c.args.from _ c.requires in
    omega arith

pub returns-then-size-lt2 : goal.returns-then-size-lt2
returns-then-size-lt2 c = run_none _ _ _ _ _ (run-within c.args.words.now c.args.from _ c.requires)

pub overflow_sub-words : goal.overflow_sub-words
overflow_sub-words c = run-within c.args.words.now c.args.from _ c.requires

pub loop-k-init : goal.loop-k-init
loop-k-init c = run-starts _ _ _ c.requires _

pub loop-k-preserved : goal.loop-k-preserved
loop-k-preserved c =
    run-next _ _ _ c.requires _ _ _ (omega arith) (omega arith)
    (omega (arith, c.room_for-most.ensures.0)) (c.looks_like.ensures c.if-not-looks_like.false) c.loop-k.invariant
