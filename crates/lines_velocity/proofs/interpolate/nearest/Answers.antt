use Rattle.lines_velocity.proofs.VelocityLaws.{nearest-turn, nearest-end}
use Rattle.lines_velocity.specs.Velocity.{nearest_of, neighbours_of}
use borrow.Author.Rules.{rules}
use Rattle.lines_velocity.proofs.interpolate.nearest.Goals as goal

pub loop-k-init : goal.loop-k-init
unfolding nearest_of neighbours_of
loop-k-init c =
    (rw (c.neighbour-first.ensures.0 c.args.floats.now), c.distance_squared.ensures)

pub nearer_of-best-requires : goal.nearer_of-best-requires
nearer_of-best-requires c = (search rules, c.loop-k.invariant.1)

pub loop-k-preserved : goal.loop-k-preserved
loop-k-preserved c =
    let a = c.args in
    (nearest-turn _ _ _ _ _ _ _ (c.neighbour_count-count.ensures.0 a.floats.now) c.loop-k.invariant.0 _ _ c.loop-k-test.true (c.neighbour.ensures.0 a.floats.now) (c.nearer_of-best.ensures.0 a.words.now), c.nearer_of-best.ensures.1)

pub returns : goal.returns
returns c =
    nearest-end _ _ _ _ _ _ _ (c.neighbour_count-count.ensures.0 c.args.floats.now) c.loop-k.invariant.0 c.loop-k-test.false
