use Rattle.arith.specs.Vec.{each3}
use Rattle.std.proofs.Common.{sym, ◌∙◌}
use Rattle.arith.proofs.Vec3.is_finite.Goals as goal
use Rattle.arith.proofs.Vec3.is_finite.Goals.{then-is_finite, else-is_finite}

pub returns-then-is_finite-2 : goal.returns-then-is_finite-2
unfolding each3
returns-then-is_finite-2 c =
    elim c.if-is_finite.branch [
      | then-is_finite w ↦ rw (sym c.is_finite.ensures ∙ w.if-is_finite.true, sym w.is_finite-then-is_finite.ensures ∙ sym w.value-is ∙ c.if-is_finite-2.true) c.is_finite-then-is_finite-2.ensures
      | else-is_finite w ↦ cc
    ]

pub returns-else-is_finite-2 : goal.returns-else-is_finite-2
unfolding each3
returns-else-is_finite-2 c =
    elim c.if-is_finite.branch [
      | then-is_finite w ↦ rw (c.if-is_finite-2.false, sym c.is_finite.ensures ∙ w.if-is_finite.true, sym w.is_finite-then-is_finite.ensures ∙ sym w.value-is ∙ c.if-is_finite-2.false)
      | else-is_finite w ↦ rw (c.if-is_finite-2.false, sym c.is_finite.ensures ∙ w.if-is_finite.false)
    ]
