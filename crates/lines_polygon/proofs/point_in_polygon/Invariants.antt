use mathlib.Core.Path.{◌≡◌}
use Rattle.arith.specs.Lists.{sides}
use Rattle.lines_polygon.specs.Vertices.{pairs_from}
use Rattle.lines_polygon.specs.Contains.{position}
use Rattle.lines_polygon.proofs.Laws.{rest}
use Rattle.lines_polygon.proofs.point_in_polygon.Given as goal

abbrev pub invariant-loop-i : goal.invariant-loop-i
invariant-loop-i l = rest l.q (sides (pairs_from l.floats l.at l.n)) l.inside l.i ≡ position l.q (pairs_from l.floats l.at l.n)
