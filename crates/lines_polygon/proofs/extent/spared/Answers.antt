use mathlib.Core.Path.{refl}
use Rattle.lines_polygon.specs.Extent.{spared}
use Rattle.lines_polygon.proofs.extent.spared.Goals as goal

pub returns : goal.returns
unfolding spared
returns c = refl
