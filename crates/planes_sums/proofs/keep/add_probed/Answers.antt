use Rattle.planes_sums.proofs.AccumulatorLaws.{probed-hit, probed-here, probed-not}
use Rattle.planes_sums.proofs.keep.add_probed.Goals as goal

pub returns-in-Some : goal.returns-in-Some
returns-in-Some c = probed-hit _ _ _ _ _ _ _ _ _ _ _ c.in-Some.is

pub returns-then-covers : goal.returns-then-covers
returns-then-covers c = probed-here _ _ _ _ _ _ _ _ _ _ c.in-None.is c.covers.ensures c.if-covers.true

pub returns-else-covers : goal.returns-else-covers
returns-else-covers c = probed-not _ _ _ _ _ _ _ _ _ _ c.in-None.is c.covers.ensures c.if-covers.false
