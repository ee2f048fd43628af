use mathlib.Core.Path.{◌≡◌}
use Rattle.case_file.specs.Trailer.{words_in}
use Rattle.mesh_points.proofs.CollectLaws.{Uniting}
use Rattle.mesh_points.proofs.unique_vertices.Given as goal

abbrev pub invariant-loop : goal.invariant-loop
invariant-loop l = (l.c.face ≡ l.counter) × Uniting (words_in l.ws) l.h l.points l.initial.out l.out l.n l.c
