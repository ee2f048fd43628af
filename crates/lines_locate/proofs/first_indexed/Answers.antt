use Rattle.lines_locate.proofs.IndexLaws.{go-start, go-end, go-room, go-less, go-cell, go-hit, go-turn}
use Rattle.lines_locate.proofs.FoundLaws.{held, not-searched, held-here, held-nowhere}
use Rattle.lines_locate.proofs.LocateLaws.{missed-cell}
use Rattle.lines_locate.proofs.RangeLaws.{passed_over, index-low}
use Rattle.lines_locate.specs.Ranges.{index_bin}
use mathlib.Core.Path.{refl, sym, ◌∙◌}
use Prim.Native.Nat.{◌+◌}
use native.Mathlib.Omega.{arith}
use borrow.Author.Rules.{rules}
use Rattle.lines_locate.proofs.first_indexed.Goals as goal
use Rattle.lines_locate.proofs.first_indexed.Goals.{then-may_contain+then-is_searched+else-is_within, then-may_contain+else-is_searched, else-may_contain}

pub head-h-requires : goal.head-h-requires
head-h-requires c =
    let p = c.requires in
    let a = c.args in
    let l = index-low a.g a.q in
    record { lent_words = (p.lent_words.0, p.lent_words.2.binned, rw p.bin_index.1 l.0, rw p.bin_index.1 l.1); bin_index = p.bin_index.0 }

pub loop-h-init : goal.loop-h-init
loop-h-init c =
    let p = c.requires in
    let a = c.args in
    let l = index-low a.g a.q in
    go-start _ _ _ _ (record { x = a.g.bins.x + 1; y = a.g.bins.y + 1 }) (index_bin a.g a.q) _ p.bin_index.0 l.0 l.1
    (passed_over _ _ _ _ _ _ _ p.lent_words.2 p.lent_words.3 p.lent_words.4) (rw (← p.bin_index.1) c.head-h.ensures)

pub pool-i-requires : goal.pool-i-requires
pool-i-requires c =
    let r = go-room _ _ _ _ _ c.loop-h.invariant c.loop-h-test.true in
    (search rules, search rules, search rules, omega arith)

pub may_contain-requires : goal.may_contain-requires
may_contain-requires c =
    let p = c.requires in
    (p.lent_words.1, go-cell _ _ _ _ _ c.loop-h.invariant c.loop-h-test.true _ c.pool-i.ensures.0)

pub is_searched-requires : goal.is_searched-requires
is_searched-requires c =
    let p = c.requires in
    (p.lent_words.0, go-cell _ _ _ _ _ c.loop-h.invariant c.loop-h-test.true _ c.pool-i.ensures.0)

pub position_in-position-requires : goal.position_in-position-requires
position_in-position-requires c =
    let p = c.requires in
    (p.lent_words.0, p.lent_words.1, go-cell _ _ _ _ _ c.loop-h.invariant c.loop-h-test.true _ c.pool-i.ensures.0)

pub returns-then-is_within : goal.returns-then-is_within
returns-then-is_within c =
    let g = c.loop-h.invariant in
    let t = c.loop-h-test.true in
    let e = c.pool-i.ensures.0 in
    let r = c.position_in-position.ensures in
    let h = held _ _ _ _ _ _ _ _ c.is_searched.ensures c.if-is_searched.true _ _ r c.is_within.ensures in
    held-here _ _ _ _ _ _ _ _ (go-cell _ _ _ _ _ g t _ e) (go-hit _ _ _ _ _ g t _ e _ h c.if-is_within.true) r

pub overflow_add-h : goal.overflow_add-h
overflow_add-h c = let r = go-room _ _ _ _ _ c.loop-h.invariant c.loop-h-test.true in omega arith

pub pool-h-requires : goal.pool-h-requires
pool-h-requires c =
    let r = go-room _ _ _ _ _ c.loop-h.invariant c.loop-h-test.true in
    (search rules, search rules, search rules, r)

pub loop-h-smaller : goal.loop-h-smaller
loop-h-smaller c = go-less _ _ _ _ _ c.loop-h.invariant c.loop-h-test.true _ c.pool-h.ensures.0

pub loop-h-preserved : goal.loop-h-preserved
loop-h-preserved c =
    let p = c.requires in
    let a = c.args in
    let g = c.loop-h.invariant in
    let t = c.loop-h-test.true in
    let e = c.pool-i.ensures.0 in
    go-turn _ _ _ _ _ g t _ e _ _ refl
    (elim c.if-may_contain.branch [
      | then-may_contain+then-is_searched+else-is_within w ↦ sym (held _ _ _ _ _ _ _ _ w.is_searched.ensures w.if-is_searched.true _ _ w.position_in-position.ensures w.is_within.ensures) ∙ w.if-is_within.false
      | then-may_contain+else-is_searched w ↦ not-searched _ _ _ _ _ _ _ _ w.is_searched.ensures w.if-is_searched.false
      | else-may_contain w ↦ missed-cell _ _ _ _ _ _ _ _ p.lent_words.2.limits (go-cell _ _ _ _ _ g t _ e) c.may_contain.ensures w.if-may_contain.false
    ])
    c.pool-h.ensures.0

pub returns : goal.returns
returns c = held-nowhere _ _ _ _ _ _ _ c.nowhere.ensures (go-end _ _ _ _ _ c.loop-h.invariant c.loop-h-test.false)
