use mathlib.Core.Path.{sym, ◌∙◌}
use Rattle.planes_sums.specs.Kept.{integral_of, weighing_of}
use Rattle.planes_sums.proofs.keep.add_integral.Goals as goal

pub returns-then-is_valid : goal.returns-then-is_valid
unfolding integral_of weighing_of
returns-then-is_valid c = rw (c.weighing.ensures, sym c.is_valid.ensures ∙ c.if-is_valid.true)

pub returns-else-is_valid : goal.returns-else-is_valid
unfolding integral_of weighing_of
returns-else-is_valid c = rw (sym c.is_valid.ensures ∙ c.if-is_valid.false)
