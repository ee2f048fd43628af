use Rattle.lines_step.proofs.StepLaws.{along-lost, along-found}
use Rattle.arith.specs.F64.{◌⊗◌, 0·5}
use Rattle.lines_velocity.specs.Velocity.{direction_at}
use Rattle.lines_step.specs.RungeKutta.{third, fourth}
use Rattle.lines_step.proofs.third.Goals as goal

pub returns-in_err-k3 : goal.returns-in_err-k3
unfolding third
returns-in_err-k3 c =
    let a = c.args in
    rw c.from_residual.ensures (along-lost (direction_at _ _) (fourth _ _ _ _ _) a.start.point a.k2 (a.start.step ⊗ 0·5) c.scale.ensures c.add-q.ensures c.direction_at.ensures c.in_err-k3.was)

pub returns : goal.returns
unfolding third
returns c =
    let a = c.args in
    along-found (direction_at _ _) (fourth _ _ _ _ _) a.start.point a.k2 (a.start.step ⊗ 0·5) c.scale.ensures c.add-q.ensures c.direction_at.ensures c.in_ok-k3.was c.fourth.ensures
