use mathlib.Core.Path.{◌≡◌}
use lib.ListN.{drop}
use Rattle.arith.specs.Lists.{all_of, sides}
use Rattle.lines_polygon.specs.Vertices.{pairs_from}
use Rattle.lines_polygon.specs.Extent.{side_within}
use Rattle.lines_polygon.proofs.extent.has_sides.Given as goal

abbrev pub invariant-loop-i : goal.invariant-loop-i
invariant-loop-i l = all_of (side_within l.l) (drop l.i (sides (pairs_from l.floats l.at l.n))) ≡ all_of (side_within l.l) (sides (pairs_from l.floats l.at l.n))
