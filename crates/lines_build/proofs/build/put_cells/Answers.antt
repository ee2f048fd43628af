use Rattle.lines_field.proofs.LimitLaws.{cells-put}
use Rattle.lines_build.proofs.build.put_cells.Goals as goal

pub returns : goal.returns
returns c =
    cells-put _ _ _ _ _ _ c.put_polygons.ensures.0 c.put_polygons.ensures.1 c.limit_cells.ensures.0 c.limit_cells.ensures.1 c.limit_cells.ensures.2
