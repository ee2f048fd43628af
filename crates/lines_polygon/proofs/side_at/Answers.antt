use Rattle.lines_polygon.specs.Vertices.{side_from}
use Rattle.lines_polygon.proofs.side_at.Goals as goal

pub returns : goal.returns
unfolding side_from
returns c = rw (c.pair_at-2.ensures, c.next_of.ensures.0, c.pair_at.ensures)
