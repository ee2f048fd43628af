use Rattle.lines_velocity.proofs.VelocityLaws.{nearer-taken, nearer-left}
use Rattle.lines_velocity.proofs.interpolate.nearer_of.Goals as goal

pub returns-then-nearer : goal.returns-then-nearer
returns-then-nearer c =
    (λ words. nearer-taken _ _ _ _ _ _ _ (c.distance_squared-d.ensures words) (c.requires.1 words) c.nearer.ensures c.if-nearer.true, c.distance_squared-d.ensures)

pub returns-else-nearer : goal.returns-else-nearer
returns-else-nearer c =
    (λ words. nearer-left _ _ _ _ _ _ _ (c.distance_squared-d.ensures words) (c.requires.1 words) c.nearer.ensures c.if-nearer.false, c.requires.1)
