use Rattle.lines_locate.proofs.LocateLaws.{locate-here, locate-next, locate-end, missed-cell}
use Rattle.lines_locate.proofs.FoundLaws.{held, not-searched, held-here, held-nowhere}
use mathlib.Core.Path.{refl, sym, ◌∙◌}
use Rattle.lines_locate.proofs.first_holding.Goals as goal
use Rattle.lines_locate.proofs.first_holding.Goals.{then-may_contain+then-is_searched+else-is_within, then-may_contain+else-is_searched, else-may_contain}

pub loop-i-init : goal.loop-i-init
loop-i-init c = refl

pub returns-then-is_within : goal.returns-then-is_within
returns-then-is_within c =
    let l = c.loop-i-test.true in
    let r = c.position_in-position.ensures in
    let h = held _ _ _ _ _ _ _ _ c.is_searched.ensures c.if-is_searched.true _ _ r c.is_within.ensures in
    held-here _ _ _ _ _ _ _ _ l (locate-here _ _ _ _ _ _ c.loop-i.invariant _ l h c.if-is_within.true) r

pub loop-i-preserved : goal.loop-i-preserved
loop-i-preserved c =
    let p = c.requires in
    let a = c.args in
    let l = c.loop-i-test.true in
    locate-next _ _ _ _ _ _ c.loop-i.invariant _ l refl
    (elim c.if-may_contain.branch [
      | then-may_contain+then-is_searched+else-is_within w ↦ sym (held _ _ _ _ _ _ _ _ w.is_searched.ensures w.if-is_searched.true _ _ w.position_in-position.ensures w.is_within.ensures) ∙ w.if-is_within.false
      | then-may_contain+else-is_searched w ↦ not-searched _ _ _ _ _ _ _ _ w.is_searched.ensures w.if-is_searched.false
      | else-may_contain w ↦ missed-cell _ _ _ _ _ _ _ _ p.2 l c.may_contain.ensures w.if-may_contain.false
    ])

pub returns : goal.returns
returns c = held-nowhere _ _ _ _ _ _ _ c.nowhere.ensures (locate-end _ _ _ _ _ _ c.loop-i.invariant c.loop-i-test.false)
