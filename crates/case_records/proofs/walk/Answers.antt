use borrow.Author.Rules.{rules}
use mathlib.Core.Path.{refl}
use native.Mathlib.Omega.{arith}
use Rattle.std.proofs.lemmas.Result.{err_from_is_err_and}
use Rattle.case_records.proofs.EndLaws.{walk-wrong, walk-next, walk-left, walk_end}
use Rattle.case_records.proofs.RunLaws.{run_past, walk-run}
use Rattle.case_records.proofs.walk.Goals as goal

pub returns-in_err-next : goal.returns-in_err-next
returns-in_err-next c =
    let p = err_from_is_err_and c.from_residual.result c.from_residual.ensures.1 in
    rw (p.1, p.2)
    (walk-wrong c.args.words.now _ _ c.loop-i.at _ c.loop-i.invariant.2 _ c.loop-i-test.true c.in_err-next.ensures _ refl)

pub overflow_sub-at : goal.overflow_sub-at
overflow_sub-at c = let p = run_past c.args.words.now c.loop-i.at _ c.in_ok-next.ensures in search rules

pub loop-i-preserved : goal.loop-i-preserved
loop-i-preserved c =
    let r = c.run_after-records.ensures in
    let next = walk-next c.args.words.now _ _ c.loop-i.at _ c.loop-i.invariant.2 _ c.loop-i-test.true c.in_ok-next.ensures _ refl in
    (r.within, omega (arith, c.wait_after-wait.ensures, c.loop-i.invariant.1), walk-run _ _ _ _ _ _ _ _ c.loop-i-test.true next r)

pub returns-then-at-words : goal.returns-then-at-words
returns-then-at-words c = walk-left c.args.words.now _ _ c.loop-i.at _ c.loop-i.invariant.2 c.loop-i-test.false (omega arith)

pub returns : goal.returns
returns c = walk_end c.args.words.now _ _ c.loop-i.at _ c.loop-i.invariant.2 c.loop-i-test.false (omega arith)
