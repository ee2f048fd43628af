use native.Mathlib.Omega.{arith}
use Rattle.lines_field.proofs.GridLaws.{listed_by}
use Rattle.lines_field.proofs.bins.list_cell.Goals as goal

pub put_cell-requires : goal.put_cell-requires
put_cell-requires c =
    let p = c.requires in
    let long = p.0.long in
    (omega (arith, c.words_at.ensures), c.index_range-range.ensures.2, c.count_in-n.ensures.1, c.listed_bins-listed.ensures.1)

pub returns : goal.returns
returns c =
    let p = c.requires in
    let long = p.0.long in
    let r = c.index_range-range.ensures in
    let e = c.listed_bins-listed.ensures in
    listed_by _ _ _ _ _ _ _ _ _ _ _ _ c.floats_at-at.ensures c.count_in-n.ensures.0 c.limits_at.ensures r.0 r.1 e.0 e.1 c.words_at.ensures c.put_cell.ensures (omega arith)
