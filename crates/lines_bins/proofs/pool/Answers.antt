use Rattle.lines_bins.proofs.Laws.{pools}
use borrow.Author.Rules.{rules}
use Rattle.lines_bins.proofs.pool.Goals as goal

pub overflow_mul-n : goal.overflow_mul-n
overflow_mul-n c = search (pools, rules)

pub overflow_add-base : goal.overflow_add-base
overflow_add-base c = search (pools, rules)

pub overflow_add-base-2 : goal.overflow_add-base-2
overflow_add-base-2 c = search (pools, rules)

pub overflow_add-base-3 : goal.overflow_add-base-3
overflow_add-base-3 c = search (pools, rules)

pub offset_bounds-words-base : goal.offset_bounds-words-base
offset_bounds-words-base c = search (pools, rules)

pub bounds-words-base : goal.bounds-words-base
bounds-words-base c = search (pools, rules)

pub wide-requires : goal.wide-requires
wide-requires c = search (pools, rules)

pub returns : goal.returns
returns c = search (pools, rules)
