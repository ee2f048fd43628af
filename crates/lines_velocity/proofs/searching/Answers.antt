use mathlib.Core.Path.{refl}
use Rattle.lines_velocity.specs.Ensures.{tracer_searching}
use Rattle.lines_velocity.proofs.searching.Goals as goal

pub returns : goal.returns
unfolding tracer_searching
returns c = refl
