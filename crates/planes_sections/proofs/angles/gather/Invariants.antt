use mathlib.Core.Path.{◌≡◌}
use lib.ListN.{length, get_or}
use Rattle.arith.specs.Records.{tab}
use Rattle.planes_crossings.specs.Ensures.{slice_points, point_in, SlicesKept}
use Rattle.planes_sections.proofs.angles.gather.Given as goal

abbrev pub invariant-loop-i : goal.invariant-loop-i
invariant-loop-i l = SlicesKept l.initial.x l.initial.y l.initial.z l.x l.y l.z (length l.places) × (slice_points l.x l.y l.z l.i ≡ tab (λ k. point_in l.px l.py l.pz (get_or l.places k 0)) l.i)
