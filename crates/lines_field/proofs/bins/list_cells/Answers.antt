use Rattle.lines_field.proofs.GridLaws.{listing_start, listing-turn, listing-end}
use borrow.Author.Rules.{rules}
use Rattle.lines_field.proofs.bins.list_cells.Goals as goal

pub loop-i-init : goal.loop-i-init
loop-i-init c = listing_start _ _ _ _

pub loop-i-preserved : goal.loop-i-preserved
loop-i-preserved c = listing-turn _ _ _ _ _ _ _ c.loop-i.invariant c.loop-i-test.true (search rules) c.list_cell.ensures

pub returns : goal.returns
returns c = listing-end _ _ _ _ _ _ c.loop-i.invariant c.loop-i-test.false
