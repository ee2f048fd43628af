use mathlib.Core.Path.{◌≡◌}
use lib.ListN.{drop}
use Rattle.arith.specs.Lists.{fold, sides}
use Rattle.arith.specs.Vec.{origin}
use Rattle.mesh_area.specs.Layout.{points_in}
use Rattle.mesh_geometry.specs.Faces.{add_cross}
use Rattle.mesh_geometry.proofs.twice_area.Given as goal

abbrev pub invariant-loop-i : goal.invariant-loop-i
invariant-loop-i l =
    (fold (add_cross (points_in l.case l.points)) l.sum (drop l.i (sides l.vertices)) ≡ fold (add_cross (points_in l.case l.points)) origin (sides l.vertices))
