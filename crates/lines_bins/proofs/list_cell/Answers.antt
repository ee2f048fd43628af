use Rattle.lines_bins.proofs.Laws.{cells, cell-start, cell-turn, cell-done}
use borrow.Author.Rules.{rules}
use Rattle.lines_bins.proofs.list_cell.Goals as goal

pub loop-y-init : goal.loop-y-init
loop-y-init c =
    let pre = c.requires in
    cell-start _ _ _ _ _ _ _ _ _ pre.bin_ranges pre.chains pre.i_lt_n c.slot-y0.ensures.0 c.slot-y1.ensures.0

pub loop-y-preserved : goal.loop-y-preserved
loop-y-preserved c = search (cells, rules)

pub returns : goal.returns
returns c = cell-done _ _ _ _ _ _ _ _ _ _ _ c.loop-y.invariant c.loop-y-test.false

pub returns-else-t-eq0 : goal.returns-else-t-eq0
returns-else-t-eq0 c =
    cell-done _ _ _ _ _ _ _ _ _ _ _
    (cell-turn _ _ _ _ _ _ _ _ _ _ _ c.loop-y.invariant _ _ c.list_row-t.ensures c.if-t-eq0.false (search rules))
    (search rules)
