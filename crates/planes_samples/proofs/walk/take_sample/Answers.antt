use Rattle.planes_samples.proofs.StepLaws.{sample-taken, sample-bad}
use Rattle.planes_samples.proofs.walk.take_sample.Goals as goal

pub returns-then-has_finite_values : goal.returns-then-has_finite_values
returns-then-has_finite_values c = sample-taken _ _ _ _ _ _ _ _ _ _ _ _ _ _ c.read_cell-v.ensures.answer c.read_cell-v.ensures.marks c.has_finite_values.ensures _ _ c.if-has_finite_values.true c.requires.slice_lengths.2 c.add.ensures

pub returns-else-has_finite_values : goal.returns-else-has_finite_values
returns-else-has_finite_values c = sample-bad _ _ _ _ _ _ _ _ _ _ _ _ _ _ c.read_cell-v.ensures.answer c.read_cell-v.ensures.marks c.has_finite_values.ensures c.if-has_finite_values.false
