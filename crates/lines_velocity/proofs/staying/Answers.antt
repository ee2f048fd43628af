use mathlib.Core.Path.{refl}
use Rattle.lines_velocity.specs.Ensures.{tracer_staying}
use Rattle.lines_velocity.proofs.staying.Goals as goal

pub returns : goal.returns
unfolding tracer_staying
returns c = refl
