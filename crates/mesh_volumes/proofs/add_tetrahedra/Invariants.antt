use Prim.Native.Nat.{◌+◌}
use mathlib.Core.Path.{◌≡◌}
use lib.ListN.{drop, get_or}
use Rattle.arith.specs.Lists.{fold, windows}
use Rattle.mesh_area.specs.Tables.{point_at}
use Rattle.mesh_area.specs.Layout.{points_in}
use Rattle.mesh_volumes.specs.Geometry.{add_tetrahedron, add_tetrahedra}
use Rattle.mesh_volumes.proofs.add_tetrahedra.Given as goal

abbrev pub invariant-loop-j : goal.invariant-loop-j
invariant-loop-j l =
    (fold (add_tetrahedron (points_in l.case l.points) l.reference (point_at (points_in l.case l.points) (get_or l.vertices 0 0))) l.sum (windows (drop (l.j + 1) l.vertices)) ≡ add_tetrahedra (points_in l.case l.points) l.reference l.initial.sum l.vertices)
