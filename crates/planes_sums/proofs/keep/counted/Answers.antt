use Rattle.std.proofs.Common.{rules}
use Rattle.planes_sums.proofs.MeasureLaws.{counted-above}
use Rattle.planes_sums.proofs.keep.counted.Goals as goal

pub returns-then-measure : goal.returns-then-measure
returns-then-measure c = rw (← (counted-above c.args.measure c.args.value)) (search rules)

pub returns-else-measure : goal.returns-else-measure
returns-else-measure c = rw (← (counted-above c.args.measure c.args.value)) (search rules)
