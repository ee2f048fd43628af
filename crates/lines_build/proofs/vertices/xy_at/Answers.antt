use Rattle.lines_locate.specs.Locate.{xy_of}
use Rattle.lines_build.proofs.vertices.xy_at.Goals as goal

pub returns : goal.returns
unfolding xy_of
returns c = rw c.point_at-p.ensures
