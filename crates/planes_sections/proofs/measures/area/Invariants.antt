use mathlib.Core.Path.{◌≡◌}
use lib.ListN.{drop}
use Rattle.arith.specs.Lists.{fold, windows}
use Rattle.planes_sections.specs.Intersect.{add_area, area_of}
use Rattle.planes_crossings.specs.Ensures.{slice_points}
use Rattle.planes_sections.proofs.measures.area.Given as goal

abbrev pub invariant-loop-i : goal.invariant-loop-i
invariant-loop-i l = fold (add_area l.o) l.total (windows (drop l.i (slice_points l.x l.y l.z l.n))) ≡ area_of (slice_points l.x l.y l.z l.n)
