use native.Mathlib.Omega.{arith}
use Rattle.case_file.specs.Trailer.{words_in}
use Rattle.case_file.proofs.ReadLaws.{length-words_in}
use Rattle.case_definitions.proofs.AlikeLaws.{head-ends, alike-head, running-starts, running-next, run_none}
use Rattle.case_definitions.proofs.walker.run.Goals as goal

pub returns-then-h-gt4 : goal.returns-then-h-gt4
returns-then-h-gt4 c = run_none _ _ _ _ _ (head-ends (words_in c.args.words.now) c.args.h c.args.at c.requires).within

pub loop-k-init : goal.loop-k-init
loop-k-init c = running-starts _ _ _ _ _ (head-ends (words_in c.args.words.now) c.args.h c.args.at c.requires).within

pub overflow_sub-p : goal.overflow_sub-p
overflow_sub-p c = let b = (head-ends (words_in c.args.words.now) c.args.h c.args.at c.requires).past in omega arith

pub overflow_add-p : goal.overflow_add-p
overflow_add-p c = let l = (c.looks_like.ensures c.if-not-looks_like.false).room in omega (arith, length-words_in c.args.words.now)

pub loop-k-preserved : goal.loop-k-preserved
loop-k-preserved c =
    running-next _ _ _ _ _ _ _ c.loop-k.invariant c.loop-k-test.true
    (alike-head (words_in c.args.words.now) c.args.h c.args.at c.loop-k.p c.requires c.if-h-gt4.false (c.looks_like.ensures c.if-not-looks_like.false))
