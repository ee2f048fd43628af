use borrow.Author.Rules.{rules}
use mathlib.Core.Path.{sym, ◌∙◌}
use native.Mathlib.Nat.{sub-zero}
use native.Mathlib.Omega.{arith}
use Rattle.std.proofs.lemmas.Result.{err_from_is_err_and}
use Rattle.case_file.proofs.ReadLaws.{length-words_in}
use Rattle.case_definitions.proofs.RecordLaws.{walked_start, walk-wrong, walk-left, walk_end}
use Rattle.case_definitions.proofs.AlikeLaws.{head-to, walk-on}
use Rattle.case_file.specs.Trailer.{words_in}
use Rattle.case_definitions.proofs.walker.walk.Goals as goal

pub loop-i-init : goal.loop-i-init
loop-i-init c = (search rules, search rules, rw sub-zero (walked_start _))

pub returns-in_err-head : goal.returns-in_err-head
returns-in_err-head c =
    let p = err_from_is_err_and c.from_residual.result c.from_residual.ensures.1 in
    rw (p.1, p.2)
    (walk-wrong (words_in c.args.words.now) c.args.cells c.loop-i.i c.loop-i.at c.loop-i.faces _
    c.loop-i-test.true c.in_err-head.ensures
    ∙ c.loop-i.invariant.2)

pub overflow_sub-cells : goal.overflow_sub-cells
overflow_sub-cells c = omega arith

pub overflow_sub-cells-in-loop-i : goal.overflow_sub-cells-in-loop-i
overflow_sub-cells-in-loop-i c = omega arith

pub run_if-k-requires : goal.run_if-k-requires
run_if-k-requires c =
    head-to (words_in c.args.words.now) c.loop-i.at c.in_ok-head.head c.in_ok-head.next
    c.in_ok-head.ensures

pub overflow_add-faces : goal.overflow_add-faces
overflow_add-faces c = omega (arith, (walk-on (words_in c.args.words.now) c.args.cells c.loop-i.i c.loop-i.at c.loop-i.faces c.in_ok-head.head c.in_ok-head.next c.run_if-k.result c.loop-i-test.true c.in_ok-head.ensures c.run_if-k.ensures).few)

pub overflow_mul-faces : goal.overflow_mul-faces
overflow_mul-faces c = omega (arith, (walk-on (words_in c.args.words.now) c.args.cells c.loop-i.i c.loop-i.at c.loop-i.faces c.in_ok-head.head c.in_ok-head.next c.run_if-k.result c.loop-i-test.true c.in_ok-head.ensures c.run_if-k.ensures).fit, (walk-on (words_in c.args.words.now) c.args.cells c.loop-i.i c.loop-i.at c.loop-i.faces c.in_ok-head.head c.in_ok-head.next c.run_if-k.result c.loop-i-test.true c.in_ok-head.ensures c.run_if-k.ensures).within, length-words_in c.args.words.now)

pub overflow_add-faces-in-loop-i : goal.overflow_add-faces-in-loop-i
overflow_add-faces-in-loop-i c = omega (arith, (walk-on (words_in c.args.words.now) c.args.cells c.loop-i.i c.loop-i.at c.loop-i.faces c.in_ok-head.head c.in_ok-head.next c.run_if-k.result c.loop-i-test.true c.in_ok-head.ensures c.run_if-k.ensures).fit, (walk-on (words_in c.args.words.now) c.args.cells c.loop-i.i c.loop-i.at c.loop-i.faces c.in_ok-head.head c.in_ok-head.next c.run_if-k.result c.loop-i-test.true c.in_ok-head.ensures c.run_if-k.ensures).within, length-words_in c.args.words.now)

pub overflow_sub-at : goal.overflow_sub-at
overflow_sub-at c = omega (arith, (walk-on (words_in c.args.words.now) c.args.cells c.loop-i.i c.loop-i.at c.loop-i.faces c.in_ok-head.head c.in_ok-head.next c.run_if-k.result c.loop-i-test.true c.in_ok-head.ensures c.run_if-k.ensures).before)

pub overflow_mul-at : goal.overflow_mul-at
overflow_mul-at c = omega (arith, (walk-on (words_in c.args.words.now) c.args.cells c.loop-i.i c.loop-i.at c.loop-i.faces c.in_ok-head.head c.in_ok-head.next c.run_if-k.result c.loop-i-test.true c.in_ok-head.ensures c.run_if-k.ensures).within, length-words_in c.args.words.now)

pub overflow_add-at : goal.overflow_add-at
overflow_add-at c = omega (arith, (walk-on (words_in c.args.words.now) c.args.cells c.loop-i.i c.loop-i.at c.loop-i.faces c.in_ok-head.head c.in_ok-head.next c.run_if-k.result c.loop-i-test.true c.in_ok-head.ensures c.run_if-k.ensures).within, length-words_in c.args.words.now)

pub overflow_add-i : goal.overflow_add-i
overflow_add-i c = omega (arith, (walk-on (words_in c.args.words.now) c.args.cells c.loop-i.i c.loop-i.at c.loop-i.faces c.in_ok-head.head c.in_ok-head.next c.run_if-k.result c.loop-i-test.true c.in_ok-head.ensures c.run_if-k.ensures).few)

pub overflow_add-i-in-loop-i : goal.overflow_add-i-in-loop-i
overflow_add-i-in-loop-i c = omega (arith, (walk-on (words_in c.args.words.now) c.args.cells c.loop-i.i c.loop-i.at c.loop-i.faces c.in_ok-head.head c.in_ok-head.next c.run_if-k.result c.loop-i-test.true c.in_ok-head.ensures c.run_if-k.ensures).few)

pub loop-i-smaller : goal.loop-i-smaller
loop-i-smaller c = omega (arith, (walk-on (words_in c.args.words.now) c.args.cells c.loop-i.i c.loop-i.at c.loop-i.faces c.in_ok-head.head c.in_ok-head.next c.run_if-k.result c.loop-i-test.true c.in_ok-head.ensures c.run_if-k.ensures).few)

pub loop-i-preserved : goal.loop-i-preserved
loop-i-preserved c = (
  (walk-on (words_in c.args.words.now) c.args.cells c.loop-i.i c.loop-i.at c.loop-i.faces c.in_ok-head.head c.in_ok-head.next c.run_if-k.result c.loop-i-test.true c.in_ok-head.ensures c.run_if-k.ensures).within,
  omega (arith, (walk-on (words_in c.args.words.now) c.args.cells c.loop-i.i c.loop-i.at c.loop-i.faces c.in_ok-head.head c.in_ok-head.next c.run_if-k.result c.loop-i-test.true c.in_ok-head.ensures c.run_if-k.ensures).fit),
  sym (walk-on (words_in c.args.words.now) c.args.cells c.loop-i.i c.loop-i.at c.loop-i.faces c.in_ok-head.head c.in_ok-head.next c.run_if-k.result c.loop-i-test.true c.in_ok-head.ensures c.run_if-k.ensures).goes ∙ c.loop-i.invariant.2,
)

pub returns-then-at-total : goal.returns-then-at-total
returns-then-at-total c =
    walk-left (words_in c.args.words.now) c.args.cells c.loop-i.i c.loop-i.at c.loop-i.faces c.loop-i-test.false (omega arith)
    ∙ c.loop-i.invariant.2

pub returns : goal.returns
returns c =
    walk_end (words_in c.args.words.now) c.args.cells c.loop-i.i c.loop-i.at c.loop-i.faces c.loop-i-test.false (omega arith)
    ∙ c.loop-i.invariant.2
