use mathlib.Core.Path.{◌≡◌}
use Rattle.planes_crossings.specs.Ensures.{slice_points}
use Rattle.planes_sums.specs.Probe.{covers}
use Rattle.planes_sums.proofs.InsideLaws.{rest}
use Rattle.planes_sums.proofs.measures.covers.Given as goal

abbrev pub invariant-loop-i : goal.invariant-loop-i
invariant-loop-i l = rest l.plane l.q l.x l.y l.z l.n l.inside l.i ≡ covers l.plane l.q (slice_points l.x l.y l.z l.n)
