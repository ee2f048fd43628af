use Rattle.lines_field.specs.Ensures.{vertices_in}
use Rattle.lines_field.specs.Vertices.{alike}
use Rattle.arith.specs.Lists.{any_of}
use lib.ListN.{drop}
use mathlib.Core.Path.{◌≡◌}
use Rattle.lines_build.proofs.vertices.contains.Given as goal

abbrev pub invariant-loop-k : goal.invariant-loop-k
invariant-loop-k l = any_of (alike l.p) (drop l.k (vertices_in l.xs l.ys l.n)) ≡ any_of (alike l.p) (vertices_in l.xs l.ys l.n)
