use mathlib.Core.Path.{◌≡◌}
use lib.ListN.{drop}
use Rattle.arith.specs.Lists.{fold, windows}
use Rattle.planes_crossings.specs.Ensures.{slice_points}
use Rattle.planes_sums.specs.Sample.{add_vector, vector_of}
use Rattle.planes_sums.proofs.measures.area_vector.Given as goal

abbrev pub invariant-loop-i : goal.invariant-loop-i
invariant-loop-i l = fold (add_vector l.o) l.total (windows (drop l.i (slice_points l.x l.y l.z l.n))) ≡ vector_of (slice_points l.x l.y l.z l.n)
