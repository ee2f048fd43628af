use Rattle.lines_polygon.proofs.Laws.{few-sides, rest-start, rest-here, rest-toggled, rest-kept, rest-inside, rest-outside}
use borrow.Author.Rules.{rules}
use Rattle.lines_polygon.proofs.point_in_polygon.Goals as goal
use Rattle.lines_polygon.proofs.point_in_polygon.Goals.{then-crosses, else-crosses}

pub returns-then-n-lt3 : goal.returns-then-n-lt3
returns-then-n-lt3 c = search (few-sides, rules)

pub loop-i-init : goal.loop-i-init
loop-i-init c = search (rest-start, rules)

pub returns-then-on_edge : goal.returns-then-on_edge
returns-then-on_edge c =
    rest-here _ _ _ _ _ c.loop-i-test.true _ _ _ _ c.side_at-s.ensures c.loop-i.invariant _ c.on_edge.ensures c.if-on_edge.true

pub loop-i-preserved : goal.loop-i-preserved
loop-i-preserved c = elim c.if-crosses.branch [ then-crosses w ↦ rest-toggled _ _ _ _ _ c.loop-i-test.true _ _ _ _ c.side_at-s.ensures c.loop-i.invariant _ c.on_edge.ensures c.if-on_edge.false _ _ c.crosses.ensures w.if-crosses.true w.inside-is | else-crosses w ↦ rest-kept _ _ _ _ _ c.loop-i-test.true _ _ _ _ c.side_at-s.ensures c.loop-i.invariant _ c.on_edge.ensures c.if-on_edge.false _ _ c.crosses.ensures w.if-crosses.false w.inside-is ]

pub returns-then-inside : goal.returns-then-inside
returns-then-inside c = search (rest-inside, rules)

pub returns-else-inside : goal.returns-else-inside
returns-else-inside c = search (rest-outside, rules)
