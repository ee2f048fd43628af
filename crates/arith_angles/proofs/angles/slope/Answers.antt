use Rattle.arith_angles.specs.Angle.{slope}
use Rattle.arith_angles.proofs.angles.slope.Goals as goal
use Rattle.arith_angles.proofs.angles.slope.Goals.{else-d-via-then-d+else-d-2, else-d-via-else-d}

pub returns-then-d-2 : goal.returns-then-d-2
unfolding slope
returns-then-d-2 c = rw (c.if-d.true, c.if-d-2.true)

pub returns-else-d : goal.returns-else-d
unfolding slope
returns-else-d c =
    elim c.else-d.branch [
      | else-d-via-then-d+else-d-2 w ↦ rw (w.if-d.true, w.if-d-2.false, c.abs.ensures, c.abs-else-d.ensures)
      | else-d-via-else-d w ↦ rw (w.if-d.false, c.abs.ensures, c.abs-else-d.ensures)
    ]
