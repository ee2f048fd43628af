use mathlib.Core.Path.{sym, ap, ◌∙◌}
use mathlib.Core.Bool.{not}
use lib.Ieee.{ne}
use Rattle.arith_angles.specs.Angle.{leftward}
use Rattle.arith_angles.proofs.angles.leftward.Goals as goal
use Rattle.arith_angles.proofs.angles.leftward.Goals.{then-d, else-d}

pub returns-after-d : goal.returns-after-d
unfolding leftward ne
returns-after-d c =
    elim c.if-d.branch [
      | then-d w ↦ rw (sym c.is_sign_negative.ensures ∙ c.if-is_sign_negative.true, w.if-d.true) (ap not w.result-is)
      | else-d w ↦ rw (sym c.is_sign_negative.ensures ∙ c.if-is_sign_negative.true, w.if-d.false) (ap not (w.result-is ∙ w.if-d.false))
    ]

pub returns-else-is_sign_negative : goal.returns-else-is_sign_negative
unfolding leftward
returns-else-is_sign_negative c = rw (c.if-is_sign_negative.false, sym c.is_sign_negative.ensures ∙ c.if-is_sign_negative.false)
