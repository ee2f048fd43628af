use Rattle.lines_step.proofs.StepLaws.{along-lost, along-found}
use Rattle.arith.specs.F64.{◌⊗◌, 0·5}
use Rattle.lines_velocity.specs.Velocity.{direction_at}
use Rattle.lines_step.specs.RungeKutta.{second, third}
use Rattle.lines_step.proofs.second.Goals as goal

pub returns-in_err-k2 : goal.returns-in_err-k2
unfolding second
returns-in_err-k2 c =
    let a = c.args in
    rw c.from_residual.ensures (along-lost (direction_at _ _) (third _ _ _ _) a.start.point a.k1 (a.start.step ⊗ 0·5) c.scale.ensures c.add-q.ensures c.direction_at.ensures c.in_err-k2.was)

pub returns : goal.returns
unfolding second
returns c =
    let a = c.args in
    along-found (direction_at _ _) (third _ _ _ _) a.start.point a.k1 (a.start.step ⊗ 0·5) c.scale.ensures c.add-q.ensures c.direction_at.ensures c.in_ok-k2.was c.third.ensures
