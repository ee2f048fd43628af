use mathlib.Core.Path.{refl}
use Rattle.lines_polygon.specs.Extent.{is_level}
use Rattle.lines_polygon.proofs.extent.is_level.Goals as goal

pub returns : goal.returns
unfolding is_level
returns c = refl
