use Rattle.lines_field.proofs.BuildLaws.{few-polygon-vertices, placed}
use borrow.Author.Rules.{rules}
use Rattle.lines_build.proofs.build.polygon.Goals as goal

pub cell_vertices-n-requires : goal.cell_vertices-n-requires
cell_vertices-n-requires c = record { points_le_most_points = search rules; i_len_bound = few-polygon-vertices _ _ _ _ _ c.requires.i_len_bound }

pub returns : goal.returns
returns c = placed _ _ _ _ _ _ _ _ _ _ c.cell_vertices-n.ensures.points (c.centre_of.ensures _) c.sort_vertices.ensures.0 c.sort_vertices.ensures.1 c.cell_vertices-n.ensures.few
