use Rattle.planes_samples.specs.Ensures.{accumulated_of}
use Rattle.planes_sums.specs.Kept.{sample_sums_of}
use Rattle.planes.specs.Ensures.{missing}
use Rattle.planes.proofs.codes.unless_off.Goals as goal

pub returns-in_err-r : goal.returns-in_err-r
unfolding missing accumulated_of
returns-in_err-r c = rw (c.from_residual.ensures, c.if-away.true, c.in_err-r.was)

pub returns-in_ok-r : goal.returns-in_ok-r
unfolding missing accumulated_of sample_sums_of
returns-in_ok-r c = rw (c.if-away.true, c.in_ok-r.was)

pub returns-else-away : goal.returns-else-away
unfolding missing
returns-else-away c = rw c.if-away.false
