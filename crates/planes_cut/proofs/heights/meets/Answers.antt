use mathlib.Core.Path.{refl}
use Rattle.planes_cut.specs.Ensures.{may_meet}
use Rattle.planes_cut.proofs.heights.meets.Goals as goal

pub returns : goal.returns
unfolding may_meet
returns c = refl
