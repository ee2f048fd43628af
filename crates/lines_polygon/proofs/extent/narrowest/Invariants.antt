use mathlib.Core.Path.{◌≡◌}
use lib.ListN.{drop}
use Rattle.arith.specs.Lists.{fold, sides}
use Rattle.lines_polygon.specs.Vertices.{pairs_from}
use Rattle.lines_polygon.specs.Extent.{widened}
use Rattle.lines_polygon.proofs.extent.narrowest.Given as goal

abbrev pub invariant-loop-i : goal.invariant-loop-i
invariant-loop-i l = fold widened l.l (drop l.i (sides (pairs_from l.floats l.at l.n))) ≡ fold widened l.initial.l (sides (pairs_from l.floats l.at l.n))
