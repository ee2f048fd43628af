use Rattle.lines_velocity.proofs.VelocityLaws.{toward-none, toward-some}
use Rattle.lines_velocity.proofs.interpolate.toward.Goals as goal

pub returns-then-neighbour_count-eq0 : goal.returns-then-neighbour_count-eq0
returns-then-neighbour_count-eq0 c = toward-none _ _ _ _ _ _ _ _ _ _ (c.neighbour_count.ensures.0 c.args.floats.now) c.if-neighbour_count-eq0.true

pub returns : goal.returns
returns c = toward-some _ _ _ _ _ _ _ _ _ _ _ (c.neighbour_count.ensures.0 c.args.floats.now) c.if-neighbour_count-eq0.false c.nearest-k.ensures (c.beside.ensures c.args.words.now)
