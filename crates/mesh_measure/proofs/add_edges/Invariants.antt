use mathlib.Core.Path.{◌≡◌}
use lib.ListN.{drop}
use Rattle.case_file.specs.Trailer.{words_in}
use Rattle.case_faces.specs.Ensures.{AtFace}
use Rattle.mesh_area.specs.Layout.{points_in}
use Rattle.mesh_measure.specs.Ensures.{faces_at}
use Rattle.arith.specs.Lists.{fold}
use Rattle.mesh_volumes.specs.Geometry.{no_weight, add_triangle}
use Rattle.mesh_measure.proofs.add_edges.Given as goal

abbrev pub invariant-loop : goal.invariant-loop
invariant-loop l = AtFace (words_in l.words) l.h l.c × (l.c.face ≡ l.counter) × (fold (add_triangle (points_in l.case l.points) l.reference) l.sum (drop l.c.face (faces_at (words_in l.words) l.h)) ≡ fold (add_triangle (points_in l.case l.points) l.reference) no_weight (faces_at (words_in l.words) l.h))
