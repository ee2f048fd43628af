use Rattle.lines_velocity.proofs.VelocityLaws.{unit-moving, unit-still, unit-endless}
use Rattle.lines_velocity.proofs.interpolate.unit.Goals as goal

pub returns-then-speed-stagnation_speed : goal.returns-then-speed-stagnation_speed
returns-then-speed-stagnation_speed c =
    let a = c.args in
    unit-moving a.stagnation_speed _ _ _ c.norm-speed.ensures c.is_finite.ensures _ c.div.ensures c.if-is_finite.true c.if-speed-stagnation_speed.true

pub returns-else-speed-stagnation_speed : goal.returns-else-speed-stagnation_speed
returns-else-speed-stagnation_speed c =
    let a = c.args in
    unit-still a.stagnation_speed _ _ _ c.norm-speed.ensures c.is_finite.ensures c.if-is_finite.true c.if-speed-stagnation_speed.false

pub returns-else-is_finite : goal.returns-else-is_finite
returns-else-is_finite c = unit-endless _ _ _ _ c.norm-speed.ensures c.is_finite.ensures c.if-is_finite.false
