use Rattle.capi_values.specs.Convert.{search_of}
use borrow.Author.Rules.{rules}
use Rattle.capi_values.proofs.convert.search.Goals as goal

pub returns-then-all_cells : goal.returns-then-all_cells
unfolding search_of
returns-then-all_cells c = search rules

pub returns-else-all_cells : goal.returns-else-all_cells
unfolding search_of
returns-else-all_cells c = search rules
