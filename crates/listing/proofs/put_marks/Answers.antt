use Rattle.listing.proofs.TextLaws.{marks-left, marked, unmarked, marks-over, over}
use Rattle.listing.proofs.put_marks.Goals as goal
use Rattle.listing.proofs.put_marks.Goals.{then-mark-eq1, else-mark-eq1}

pub loop-i-init : goal.loop-i-init
loop-i-init c = marks-left _ _ _

pub loop-i-preserved : goal.loop-i-preserved
loop-i-preserved c =
    let below = c.loop-i-test.true in
    let left = c.loop-i.invariant in
    elim c.if-mark-eq1.branch [
      | then-mark-eq1 w ↦ rw (w.text-is, w.to-is) (marked _ _ below left w.if-mark-eq1.true w.put-to.ensures w.put_decimal-to.ensures)
      | else-mark-eq1 w ↦ rw (w.text-is, w.to-is) (unmarked _ _ below left w.if-mark-eq1.false)
    ]

pub returns : goal.returns
returns c = over _ (marks-over _ _ c.loop-i-test.false) c.loop-i.invariant
