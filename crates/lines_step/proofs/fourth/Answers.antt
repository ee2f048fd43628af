use Rattle.lines_step.proofs.StepLaws.{along-lost, along-found}
use Rattle.lines_velocity.specs.Velocity.{direction_at}
use Rattle.lines_step.specs.RungeKutta.{weighed, fourth}
use Rattle.reading.proofs.ServedLaws.{served-give}
use Rattle.reading.specs.Asks.{give}
use Rattle.lines_step.proofs.fourth.Goals as goal
use Rattle.std.specs.Prelude.{Some}

pub returns-in_err-k4 : goal.returns-in_err-k4
unfolding fourth
returns-in_err-k4 c =
    let a = c.args in
    rw c.from_residual.ensures (along-lost (direction_at _ _) (λ k4. give (Some (weighed _ _ _ _ _ k4))) a.start.point a.k3 a.start.step c.scale.ensures c.add-q.ensures c.direction_at.ensures c.in_err-k4.was)

pub returns : goal.returns
unfolding fourth
returns c =
    let a = c.args in
    rw c.weighed.ensures (along-found (direction_at _ _) (λ k4. give (Some (weighed _ _ _ _ _ k4))) a.start.point a.k3 a.start.step c.scale.ensures c.add-q.ensures c.direction_at.ensures c.in_ok-k4.was served-give)
