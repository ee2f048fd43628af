use Rattle.lines_field.proofs.PolygonLaws.{Storing}
use Rattle.lines_build.proofs.build.store_vertices.Given as goal

abbrev pub invariant-loop-k : goal.invariant-loop-k
invariant-loop-k l = Storing l.initial.floats l.floats l.xs l.ys l.places l.at l.n l.k
