use Rattle.lines_locate.proofs.first_at.Goals as goal

pub first_indexed-requires : goal.first_indexed-requires
first_indexed-requires c =
    let p = c.requires in
    let i = c.is_indexed.ensures c.if-is_indexed.true in
    record { lent_words = p; bin_index = (p.2.index i.0 i.1, c.places_of-at.ensures.1) }

pub returns-then-is_indexed : goal.returns-then-is_indexed
returns-then-is_indexed c = rw (← c.places_of-at.ensures.0) c.first_indexed.ensures

pub returns-else-is_indexed : goal.returns-else-is_indexed
returns-else-is_indexed c = rw (← c.places_of-at.ensures.0) c.first_holding.ensures
