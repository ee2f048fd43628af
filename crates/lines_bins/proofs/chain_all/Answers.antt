use Rattle.lines_bins.proofs.Laws.{builds, fill-ranged, fill-chains}
use borrow.Author.Rules.{rules}
use Rattle.lines_bins.proofs.chain_all.Goals as goal

pub overflow_mul-heads : goal.overflow_mul-heads
overflow_mul-heads c = search (builds, rules)

pub overflow_mul-n : goal.overflow_mul-n
overflow_mul-n c = search (builds, rules)

pub returns-then-heads-n : goal.returns-then-heads-n
returns-then-heads-n c = search (builds, rules)

pub clear-requires : goal.clear-requires
clear-requires c = search (builds, rules)

pub fill-requires : goal.fill-requires
fill-requires c =
    let gr = c.clear.ensures in
    let ra = c.requires.bin_ranges in
    record { bin_ranges = fill-ranged _ _ _ _ _ _ _ _ gr ra c.clear.auto.words; chains = fill-chains _ _ _ _ _ _ _ gr ra }

pub returns : goal.returns
returns c = search (builds, rules)
