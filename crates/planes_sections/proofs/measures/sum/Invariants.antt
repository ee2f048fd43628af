use mathlib.Core.Path.{◌≡◌}
use lib.ListN.{drop}
use Rattle.arith.specs.Lists.{fold}
use Rattle.arith.specs.Vec.{plus, origin}
use Rattle.planes_crossings.specs.Ensures.{slice_points}
use Rattle.planes_sections.proofs.measures.sum.Given as goal

abbrev pub invariant-loop-i : goal.invariant-loop-i
invariant-loop-i l = fold plus l.total (drop l.i (slice_points l.x l.y l.z l.n)) ≡ fold plus origin (slice_points l.x l.y l.z l.n)
