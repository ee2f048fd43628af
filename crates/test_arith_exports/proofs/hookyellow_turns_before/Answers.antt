use mathlib.Core.Path.{◌∙◌, ap₂}
use Rattle.arith_angles.specs.Angle.{turns_before, precedes}
use Rattle.test_arith_exports.proofs.hookyellow_turns_before.Goals as goal

pub returns : goal.returns
unfolding turns_before
returns c =
    c.precedes.ensures ∙ ap₂ precedes c.angle_of-d.ensures c.angle_of-e.ensures
