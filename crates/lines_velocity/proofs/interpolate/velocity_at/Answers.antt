use Rattle.lines_velocity.proofs.VelocityLaws.{velocity-nowhere, velocity-here}
use Rattle.lines_velocity.proofs.interpolate.velocity_at.Goals as goal

pub returns-in_err-i : goal.returns-in_err-i
returns-in_err-i c =
    rw c.from_residual.ensures (velocity-nowhere _ _ _ _ (c.locate.ensures.by_index_2 _) c.in_err-i.was)

pub returns : goal.returns
returns c = velocity-here _ _ _ _ _ (c.locate.ensures.by_index_2 _) c.in_ok-i.was c.velocity_in.ensures
