use Rattle.lines_field.proofs.BuildLaws.{lent-words}
use Rattle.lines_field.proofs.RangeLaws.{ranged, indexed-cells, none-indexed, bins-count}
use borrow.Author.Rules.{rules}
use Rattle.lines_field.proofs.bins.index_cells.Goals as goal

pub build-requires : goal.build-requires
build-requires c =
    let l = c.list_cells.ensures in
    let p = c.requires in
    record { bin_ranges = ranged _ _ _ _ _ l p.2 (lent-words _ _ _ p.0 (search rules)); ny_bound = (bins-count _ p.2, search rules) }

pub returns-then-s-gt0 : goal.returns-then-s-gt0
returns-then-s-gt0 c =
    let l = c.list_cells.ensures in
    let p = c.requires in
    indexed-cells _ _ _ _ _ l p.2 _ c.build.ensures p.3

pub returns-else-s-gt0 : goal.returns-else-s-gt0
returns-else-s-gt0 c =
    let p = c.requires in
    none-indexed _ _ _ _ _ c.list_cells.ensures p.2 c.if-s-gt0.false p.3
