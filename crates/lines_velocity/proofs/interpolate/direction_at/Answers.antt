use Rattle.lines_velocity.proofs.VelocityLaws.{served-lost, served-found}
use Rattle.lines_velocity.specs.Velocity.{direction_at, unit}
use Rattle.reading.specs.Asks.{give}
use Rattle.reading.proofs.ServedLaws.{served-give}
use Rattle.lines_velocity.proofs.interpolate.direction_at.Goals as goal

pub returns-in_err-v : goal.returns-in_err-v
unfolding direction_at
returns-in_err-v c =
    rw c.from_residual.ensures (served-lost (λ v. give (unit _ v)) c.velocity_at.ensures c.in_err-v.was)

pub returns : goal.returns
unfolding direction_at
returns c =
    rw c.unit.ensures (served-found (λ v. give (unit _ v)) c.velocity_at.ensures c.in_ok-v.was served-give)
