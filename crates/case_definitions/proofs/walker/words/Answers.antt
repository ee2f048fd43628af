use borrow.Author.Rules.{rules}
use native.Mathlib.Nat.{add-sub_cancel_left}
use Rattle.case_file.specs.Trailer.{words_from}
use Rattle.case_definitions.proofs.walker.words.Goals as goal

-- `case_definitions::walker::words` meets its contract. Assumes nothing.
pub overflow_mul-start : goal.overflow_mul-start
unfolding words_from
overflow_mul-start c = search rules

pub overflow_add-end : goal.overflow_add-end
unfolding words_from
overflow_add-end c = search rules

pub slice_bounds-result-end : goal.slice_bounds-result-end
unfolding words_from
slice_bounds-result-end c = search rules

pub returns : goal.returns
unfolding words_from
returns c = rw add-sub_cancel_left
