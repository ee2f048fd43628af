use mathlib.Core.Path.{refl}
use Rattle.lines_polygon.specs.Extent.{end_within}
use Rattle.lines_polygon.proofs.extent.has_end.Goals as goal

pub returns : goal.returns
unfolding end_within
returns c = refl
