use Rattle.lines_velocity.proofs.VelocityLaws.{served-lost, served-found}
use Rattle.lines_step.specs.RungeKutta.{runge_kutta, second}
use Rattle.lines_step.proofs.runge_kutta.Goals as goal

pub returns-in_err-k1 : goal.returns-in_err-k1
unfolding runge_kutta
returns-in_err-k1 c = rw c.from_residual.ensures (served-lost (second _ _ _) c.direction_at.ensures c.in_err-k1.was)

pub returns : goal.returns
unfolding runge_kutta
returns c = served-found (second _ _ _) c.direction_at.ensures c.in_ok-k1.was c.second.ensures
