use Rattle.planes_sums.proofs.InsideLaws.{rest-start, rest_end, rest-toggled, rest-kept}
use borrow.Author.Rules.{rules}
use Rattle.planes_sums.proofs.measures.covers.Goals as goal
use Rattle.planes_sums.proofs.measures.covers.Goals.{then-side_crosses, else-side_crosses}

pub loop-i-init : goal.loop-i-init
loop-i-init c = search (rest-start, rules)

pub loop-i-preserved : goal.loop-i-preserved
loop-i-preserved c =
    elim c.if-side_crosses.branch [ then-side_crosses w ↦ rest-toggled _ _ _ _ _ _ _ c.loop-i-test.true _ _ c.loop-i.invariant _ c.side_crosses.ensures _ w.if-side_crosses.true w.inside-is | else-side_crosses w ↦ rest-kept _ _ _ _ _ _ _ c.loop-i-test.true _ _ c.loop-i.invariant _ c.side_crosses.ensures _ w.if-side_crosses.false w.inside-is ]

pub returns : goal.returns
returns c = search (rest_end, rules)
