use Rattle.lines_locate.proofs.LocateLaws.{test_of}
use Rattle.lines_locate.proofs.position_in.Goals as goal

pub returns : goal.returns
returns c = test_of _ _ _ _ _ _ _ _ c.count_in-n.ensures.0 c.floats_at.ensures c.point_in_polygon.ensures
