use mathlib.Core.Path.{sym, ◌∙◌}
use Rattle.planes_sums.specs.Statistics.{summing}
use Rattle.planes_sums.specs.Kept.{sums_of, summing_of}
use Rattle.planes_sums.proofs.keep.add_sample.Goals as goal

pub returns-then-is_finite : goal.returns-then-is_finite
unfolding sums_of summing_of summing
returns-then-is_finite c = rw (c.including.ensures, ← c.sample_scalar-value.ensures, ← c.dot.ensures, sym c.counted.ensures ∙ c.if-counted.true, sym c.is_finite.ensures ∙ c.if-is_finite.true)

pub returns-else-is_finite : goal.returns-else-is_finite
unfolding sums_of summing_of summing
returns-else-is_finite c = rw (← c.sample_scalar-value.ensures, ← c.dot.ensures, sym c.counted.ensures ∙ c.if-counted.true, sym c.is_finite.ensures ∙ c.if-is_finite.false)

pub returns-else-counted : goal.returns-else-counted
unfolding sums_of summing_of summing
returns-else-counted c = rw (← c.sample_scalar-value.ensures, sym c.counted.ensures ∙ c.if-counted.false)
