use Rattle.lines_bins.proofs.Laws.{pools}
use borrow.Author.Rules.{rules}
use Rattle.lines_bins.proofs.set_pool.Goals as goal

pub narrow-requires : goal.narrow-requires
narrow-requires c = search (pools, rules)

pub overflow_mul-words : goal.overflow_mul-words
overflow_mul-words c = search (pools, rules)

pub overflow_add-words : goal.overflow_add-words
overflow_add-words c = search (pools, rules)

pub overflow_add-words-2 : goal.overflow_add-words-2
overflow_add-words-2 c = search (pools, rules)

pub overflow_add-words-3 : goal.overflow_add-words-3
overflow_add-words-3 c = search (pools, rules)

pub offset_bounds-words-base : goal.offset_bounds-words-base
offset_bounds-words-base c = search (pools, rules)

pub bounds-words-base : goal.bounds-words-base
bounds-words-base c = search (pools, rules)

pub returns : goal.returns
returns c = search (pools, rules)
