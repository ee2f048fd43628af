use mathlib.Core.Path.{◌≡◌}
use mathlib.Core.Bool.{false}
use lib.ListN.{drop}
use Rattle.arith.specs.Lists.{fold}
use Rattle.mesh_area.specs.Tables.{cell_at}
use Rattle.planes_cut.specs.Ensures.{bare, face_signs, signs_of, may_meet}
use Rattle.planes_cut.proofs.heights.may_meet.Given as goal

abbrev pub invariant-loop-j : goal.invariant-loop-j
invariant-loop-j l = (may_meet l.g ≡ false) × (fold (face_signs (bare l.case l.points l.s l.words) l.cut) l.g (drop l.j (cell_at (bare l.case l.points l.s l.words).cells l.cell).faces) ≡ signs_of (bare l.case l.points l.s l.words) l.cut l.cell)
