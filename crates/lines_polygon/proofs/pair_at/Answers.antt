use mathlib.Core.Path.{refl}
use Rattle.lines_polygon.specs.Vertices.{pair_from}
use Rattle.lines_polygon.proofs.pair_at.Goals as goal

pub returns : goal.returns
unfolding pair_from
returns c = refl
