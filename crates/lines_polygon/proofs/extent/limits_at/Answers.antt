use mathlib.Core.Path.{refl}
use Rattle.lines_polygon.specs.Extent.{limits_from}
use Rattle.lines_polygon.proofs.extent.limits_at.Goals as goal

pub returns : goal.returns
unfolding limits_from
returns c = refl
