use Rattle.lines_velocity.proofs.VelocityLaws.{velocity-in}
use Rattle.lines_velocity.proofs.interpolate.velocity_in.Goals as goal

pub returns : goal.returns
returns c = velocity-in _ _ _ _ _ c.read_cell-v.ensures c.toward.ensures
