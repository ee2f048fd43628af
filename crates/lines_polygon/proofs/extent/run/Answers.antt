use mathlib.Core.Path.{refl}
use Rattle.lines_polygon.specs.Extent.{run}
use Rattle.lines_polygon.proofs.extent.run.Goals as goal

pub returns : goal.returns
unfolding run
returns c = refl
