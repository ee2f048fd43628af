use Prim.Native.Nat.{◌≤◌, ◌*◌}
use mathlib.Core.Path.{◌≡◌}
use lib.ListN.{drop}
use Rattle.arith.specs.Lists.{fold}
use Rattle.mesh_area.specs.Tables.{cell_at}
use Rattle.planes_crossings.specs.Crossings.{add_face, crossings}
use Rattle.planes_cut.specs.Ensures.{bare}
use Rattle.planes_crossings.specs.Ensures.{slice_points, SlicesKept}
use Rattle.planes_crossings.proofs.crossings.crossings.Given as goal

abbrev pub invariant-loop-j : goal.invariant-loop-j
invariant-loop-j l = (l.n ≤ 8 * l.j) × SlicesKept l.initial.x l.initial.y l.initial.z l.x l.y l.z l.n × (fold (add_face (bare l.case l.points l.s l.words) l.cut) (slice_points l.x l.y l.z l.n) (drop l.j (cell_at (bare l.case l.points l.s l.words).cells l.cell).faces) ≡ crossings (bare l.case l.points l.s l.words) l.cut (cell_at (bare l.case l.points l.s l.words).cells l.cell).faces)
