use Rattle.arith.specs.Polygon.{crosses}
use Rattle.arith.proofs.polygon.crosses.Goals as goal

pub returns-then-a-q : goal.returns-then-a-q
unfolding crosses
returns-then-a-q c = rw c.if-a-q.true

pub returns-else-a-q : goal.returns-else-a-q
unfolding crosses
returns-else-a-q c = rw c.if-a-q.false
