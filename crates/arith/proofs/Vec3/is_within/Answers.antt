use Rattle.arith.specs.Vec.{each3}
use Rattle.std.proofs.Common.{sym, ◌∙◌}
use Rattle.arith.proofs.Vec3.is_within.Goals as goal
use Rattle.arith.proofs.Vec3.is_within.Goals.{then-within, else-within}

pub returns-then-within-2 : goal.returns-then-within-2
unfolding each3
returns-then-within-2 c =
    elim c.if-within.branch [
      | then-within w ↦ rw (sym c.within.ensures ∙ w.if-within.true, sym w.within-then-within.ensures ∙ sym w.value-is ∙ c.if-within-2.true) c.within-then-within-2.ensures
      | else-within w ↦ cc
    ]

pub returns-else-within-2 : goal.returns-else-within-2
unfolding each3
returns-else-within-2 c =
    elim c.if-within.branch [
      | then-within w ↦ rw (c.if-within-2.false, sym c.within.ensures ∙ w.if-within.true, sym w.within-then-within.ensures ∙ sym w.value-is ∙ c.if-within-2.false)
      | else-within w ↦ rw (c.if-within-2.false, sym c.within.ensures ∙ w.if-within.false)
    ]
