use mathlib.Core.Path.{◌≡◌}
use lib.ListN.{drop}
use Rattle.arith.specs.Lists.{fold}
use Rattle.arith.specs.Vec.{origin}
use Rattle.mesh_area.specs.Layout.{points_in}
use Rattle.mesh_averages.specs.Averages.{add_point}
use Rattle.mesh_averages.proofs.point_sum.Given as goal

abbrev pub invariant-loop-v : goal.invariant-loop-v
invariant-loop-v l =
    (fold (add_point (points_in l.case l.points)) l.sum (drop l.v-index l.vertices) ≡ fold (add_point (points_in l.case l.points)) origin l.vertices)
