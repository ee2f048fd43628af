use Rattle.lines_bins.proofs.Laws.{rows, row-turn, row_done}
use borrow.Author.Rules.{rules}
use Rattle.lines_bins.proofs.list_row.Goals as goal

pub loop-x-init : goal.loop-x-init
loop-x-init c = search (rows, rules)

pub loop-x-preserved : goal.loop-x-preserved
loop-x-preserved c =
    row-turn _ _ _ _ _ _ _ _ _ _ _ _ c.loop-x.invariant _ _ (search rules) c.push.ensures c.bin_of.ensures.0 (search rules) (search rules)

pub returns : goal.returns
returns c = search (rows, rules)

pub returns-else-n-t-lt2 : goal.returns-else-n-t-lt2
returns-else-n-t-lt2 c =
    row_done _ _ _ _ _ _ _ _ _ _ _ _
    (row-turn _ _ _ _ _ _ _ _ _ _ _ _ c.loop-x.invariant _ _ (search rules) c.push.ensures c.bin_of.ensures.0 (search rules) (search rules))
    (search rules)
