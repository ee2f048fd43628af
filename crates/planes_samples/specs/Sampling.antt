-- `plane_monitor::sample`: "A sample reads velocity and pressure of the section's cells in order,
-- up to and including the first bad one".
-- `Taken`, `before`, `onward`, `taken`: the samples before the first bad one, and whether that one came.
-- `complete`, `sample`: all of them, or refusal 39.
use Rattle.std.specs.Prelude.{Bool, true, false, List, [], ◌∷◌, Ok}
use Rattle.reading.specs.Result as result
use Rattle.reading.specs.Result.{Refusable, refuse}
use Rattle.reading.specs.Asks.{Asks, give, ask, ◌>>=◌}
use Rattle.planes_sections.specs.Intersect.{PlaneCell}
use Rattle.planes_sums.specs.Sample.{Sample, has_finite_values}
use Rattle.refusal.specs.declared.Refusal.TheVariants.{SampleNotFinite}

-- the samples before the first bad one, and whether that one came
pub record Taken : Type 0 where
  pub samples : List Sample
  pub bad : Bool

-- one sample before the others
unfoldable pub before : Sample → Taken → Taken
before s t = record { samples = s ∷ t.samples; bad = t.bad }

-- ends at the first one whose values are not finite
unfoldable pub onward : Bool → Sample → Asks Taken → Asks Taken
onward false s rest = give (record { samples = []; bad = true })
onward true s rest = rest >>= λ t. give (before s t)

-- the samples of a section's cells, in order
unfoldable pub taken : List PlaneCell → Asks Taken
taken [] = give (record { samples = []; bad = false })
taken (c ∷ cs) = ask c.cell (λ v. onward (has_finite_values v) (record { geometry = c; values = v }) (taken cs))

-- refusal 39, "non-finite sample", or all of them
unfoldable pub complete : Taken → Refusable (List Sample)
complete t = result.◌>>=◌ (refuse SampleNotFinite t.bad) (λ _. Ok t.samples)

-- "A sample", or its refusal
unfoldable pub sample : List PlaneCell → Asks (Refusable (List Sample))
sample l = taken l >>= λ t. give (complete t)
