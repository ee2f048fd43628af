use Rattle.lines_bins.proofs.Laws.{heads-fit, few-heads}
use borrow.Author.Rules.{rules}
use Rattle.lines_locate.proofs.head.Goals as goal

pub bin_of-bin-requires : goal.bin_of-bin-requires
bin_of-bin-requires c =
    let p = c.requires in
    (p.lent_words.2, p.lent_words.3, few-heads _ _ _ _ _ p.bin_index p.lent_words.0.few-cells)

pub pool-requires : goal.pool-requires
pool-requires c =
    let p = c.requires in
    let h = heads-fit _ _ _ _ _ _ p.bin_index c.bin_of-bin.ensures.1 in
    (search rules, search rules, p.lent_words.0.few-cells, h)

pub returns : goal.returns
returns c = rw (← c.bin_of-bin.ensures.0) c.pool.ensures.0
