-- What refusals 32 and 33 leave: at most 65,536 steps, and 2 to 64 seeds.
use Rattle.std.specs.Prelude.{◌≤◌}
use Rattle.arith.specs.Limits.{most_steps}
use Rattle.job_requests.specs.declared.Request.{Request}
use Rattle.job_requests.specs.declared.Request.TheVariants.{Refused, Locate, Velocity, Streamline, Rake, Section, Statistics, Integrals, Probe}

-- the limits of a request that is not refused
unfoldable pub Allowed : Request → Type 0
Allowed (Refused n) = Unit
Allowed (Locate p search) = Unit
Allowed (Velocity p search) = Unit
Allowed (Streamline p s style search) = s.options.max_steps ≤ most_steps
Allowed (Rake r s search) = (2 ≤ r.count) × (r.count ≤ 64) × (s.options.max_steps ≤ most_steps)
Allowed (Section s) = Unit
Allowed (Statistics s field) = Unit
Allowed (Integrals s) = Unit
Allowed (Probe s p) = Unit
