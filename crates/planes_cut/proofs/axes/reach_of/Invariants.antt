use mathlib.Core.Path.{◌≡◌}
use lib.ListN.{drop}
use Rattle.arith.specs.F64.{0·0}
use Rattle.arith.specs.Lists.{fold}
use Rattle.arith.specs.Vec.{norm_squared}
use Rattle.mesh_area.specs.Layout.{points_in}
use Rattle.planes_cut.proofs.ReachLaws.{wider, farther}
use Rattle.planes_cut.proofs.axes.reach_of.Given as goal

abbrev pub invariant-loop-i : goal.invariant-loop-i
invariant-loop-i l = (fold (wider l.origin) l.span (drop l.i (points_in l.case l.points)) ≡ fold (wider l.origin) 0·0 (points_in l.case l.points)) × (fold farther l.location (drop l.i (points_in l.case l.points)) ≡ fold farther (norm_squared l.origin) (points_in l.case l.points))
