use mathlib.Core.Path.{◌≡◌}
use lib.ListN.{drop}
use Rattle.arith.specs.Lists.{fold}
use Rattle.mesh_area.specs.Tables.{face_at}
use Rattle.planes_cut.specs.Ensures.{bare, add_sign}
use Rattle.planes_cut.proofs.heights.add_face.Given as goal

abbrev pub invariant-loop-k : goal.invariant-loop-k
invariant-loop-k l = fold (add_sign (bare l.case l.points l.s l.words) l.cut) l.g (drop l.k (face_at (bare l.case l.points l.s l.words).faces l.f).vertices) ≡ fold (add_sign (bare l.case l.points l.s l.words) l.cut) l.initial.g (face_at (bare l.case l.points l.s l.words).faces l.f).vertices
