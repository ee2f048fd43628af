use Rattle.lines_velocity.specs.Velocity.{blended}
use Rattle.lines_velocity.proofs.interpolate.blended.Goals as goal

pub returns : goal.returns
unfolding blended
returns c = rw (c.add.ensures, c.scale.ensures, c.clamp.ensures, c.sub-2.ensures, c.norm_squared.ensures, c.dot.ensures, c.sub.ensures)
