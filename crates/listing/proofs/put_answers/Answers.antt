use borrow.Author.Rules.{rules}
use Rattle.listing.proofs.TextLaws.{answers-left, answers-few, answers-over, answers-turn, over}
use Rattle.listing.proofs.put_answers.Goals as goal

pub loop-init : goal.loop-init
loop-init c = (search rules, answers-left _ _ _ _)

pub returns-then-answers-from-lt2 : goal.returns-then-answers-from-lt2
returns-then-answers-from-lt2 c = over _ (answers-few c.args.answers.now _ c.loop.from c.if-answers-from-lt2.true) c.loop.invariant.1

pub loop-preserved : goal.loop-preserved
loop-preserved c =
    let in-loop = c.before in
    (search rules, answers-turn _ _ _ _ _ in-loop.loop-test.true c.if-answers-from-lt2.false c.count_of-n.ensures in-loop.loop.invariant.1 c.put_answer-to.ensures)

pub returns : goal.returns
returns c = over _ (answers-over c.args.answers.now c.args.count c.loop.counter c.loop.from c.loop-test.false) c.loop.invariant.1
