use Rattle.lines_velocity.specs.Velocity.{distance_squared, centre_of}
use Rattle.lines_velocity.proofs.interpolate.distance_squared.Goals as goal

pub returns : goal.returns
unfolding distance_squared centre_of
returns c = λ words. rw (c.norm_squared.ensures, c.sub.ensures, c.centre_of.ensures words)
