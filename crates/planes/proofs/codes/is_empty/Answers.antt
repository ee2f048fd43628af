use Rattle.std.proofs.Common.{rules}
use Rattle.planes_sums.specs.Statistics.{empty}
use Rattle.planes.proofs.codes.is_empty.Goals as goal

pub returns-then-t : goal.returns-then-t
unfolding empty
returns-then-t c = search rules

pub returns-else-t : goal.returns-else-t
unfolding empty
returns-else-t c = search rules
