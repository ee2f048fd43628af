use Rattle.lines_polygon.specs.Vertices.{pairs_from}
use Rattle.lines_field.specs.Bounds.{widened}
use Rattle.arith.specs.Lists.{fold}
use lib.ListN.{drop}
use mathlib.Core.Path.{◌≡◌}
use Rattle.lines_field.proofs.bounds.widened_by.Given as goal

abbrev pub invariant-loop-k : goal.invariant-loop-k
invariant-loop-k l = fold widened l.b (drop l.k (pairs_from l.floats l.at l.n)) ≡ fold widened l.initial.b (pairs_from l.floats l.at l.n)
