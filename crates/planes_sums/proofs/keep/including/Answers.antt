use native.Mathlib.Numerals.{add-one}
use Rattle.planes_sums.specs.Statistics.{including}
use Rattle.planes_sums.proofs.keep.including.Goals as goal

pub returns : goal.returns
unfolding including
returns c = rw (c.abs-size.ensures, c.min-negative.ensures, c.max-positive.ensures, c.max-most.ensures, c.min-least.ensures, ← add-one c.args.t.used)
