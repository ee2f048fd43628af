use Prim.Native.Nat.{◌≤◌, ◌<◌, ◌+◌}
use mathlib.Core.Path.{◌≡◌}
use lib.ListN.{drop}
use Rattle.arith.specs.Lists.{fold, sides}
use Rattle.mesh_area.specs.Tables.{face_at}
use Rattle.planes_crossings.specs.Crossings.{add_side, add_face}
use Rattle.planes_cut.specs.Ensures.{bare, face_vertex}
use Rattle.planes_crossings.specs.Ensures.{slice_points, SlicesKept, TrueHeight}
use Rattle.planes_crossings.proofs.crossings.add_face.Given as goal

abbrev pub invariant-loop-k : goal.invariant-loop-k
invariant-loop-k l = (l.n ≤ l.from + l.k) × (l.from ≤ l.n) × SlicesKept l.initial.x l.initial.y l.initial.z l.x l.y l.z l.n × TrueHeight l.cut l.a × ((l.k < l.count) → l.a.point ≡ face_vertex (bare l.case l.points l.s l.words) l.f l.k) × (fold (add_side (bare l.case l.points l.s l.words) l.cut) (slice_points l.x l.y l.z l.n) (drop l.k (sides (face_at (bare l.case l.points l.s l.words).faces l.f).vertices)) ≡ add_face (bare l.case l.points l.s l.words) l.cut (slice_points l.initial.x l.initial.y l.initial.z l.from) l.f)
