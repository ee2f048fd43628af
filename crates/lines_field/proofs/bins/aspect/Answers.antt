use mathlib.Core.Path.{refl}
use Rattle.lines_field.specs.Bins.{aspect}
use Rattle.lines_field.proofs.bins.aspect.Goals as goal

pub returns : goal.returns
unfolding aspect
returns c = refl
