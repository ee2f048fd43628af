use Rattle.planes_sections.specs.Intersect.{wide}
use Rattle.planes_pieces.proofs.pieces.is_wide.Goals as goal

pub returns : goal.returns
unfolding wide
returns c = rw c.area-area.ensures
