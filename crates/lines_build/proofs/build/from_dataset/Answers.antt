use Rattle.std.proofs.lemmas.Result.{err_from_is_err_and}
use Rattle.lines_field.proofs.BuildLaws.{lent-words, lent-floats}
use Rattle.lines_field.proofs.BuildLaws.{refused-field, made-field}
use borrow.Author.Rules.{rules}
use Rattle.lines_build.proofs.build.from_dataset.Goals as goal

pub returns-in_err-g : goal.returns-in_err-g
returns-in_err-g c =
    let p = err_from_is_err_and c.from_residual.result c.from_residual.ensures.1 in
    rw (p.1, p.2, ← c.in_err-g.was)
    (refused-field _ _ _ _ _ _ _ _ _ c.put_cells.ensures.0 c.put_cells.ensures.1 c.all_bounds-b.ensures c.bin_counts-n.ensures.counts c.grid_for.ensures.0 _ c.in_err-g.was)

pub index_cells-requires : goal.index_cells-requires
index_cells-requires c = (lent-words _ _ _ c.requires.points_le_most_points.2 (search rules), lent-floats _ _ _ c.requires.points_le_most_points.3 (search rules), c.grid_for.ensures.1 _ c.in_ok-g.was, search rules)

pub returns : goal.returns
returns c = made-field _ _ _ _ _ _ _ _ _ c.put_cells.ensures.0 c.put_cells.ensures.1 c.all_bounds-b.ensures c.bin_counts-n.ensures.counts c.grid_for.ensures.0 _ _ c.in_ok-g.was c.index_cells.ensures.0 c.index_cells.ensures.1 c.index_cells.ensures.2
