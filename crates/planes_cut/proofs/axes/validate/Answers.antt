use mathlib.Core.Path.{sym, ◌∙◌}
use Rattle.reading.specs.Result.{◌>>=◌, refuse}
use Rattle.planes_cut.specs.Plane.{validated, origin_beyond}
use Rattle.planes_cut.proofs.axes.validate.Goals as goal

pub returns-then-invalid : goal.returns-then-invalid
unfolding validated ◌>>=◌ refuse
returns-then-invalid c = rw (sym c.invalid.ensures ∙ c.if-invalid.true)

pub returns-then-not-is_within : goal.returns-then-not-is_within
unfolding validated origin_beyond ◌>>=◌ refuse
returns-then-not-is_within c = rw (sym c.invalid.ensures ∙ c.if-invalid.false, sym c.is_within.ensures ∙ c.if-not-is_within.true)

pub returns : goal.returns
unfolding validated origin_beyond ◌>>=◌ refuse
returns c = rw (sym c.invalid.ensures ∙ c.if-invalid.false, sym c.is_within.ensures ∙ c.if-not-is_within.false)
