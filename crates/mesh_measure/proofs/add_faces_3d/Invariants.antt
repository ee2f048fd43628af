use mathlib.Core.Path.{◌≡◌}
use lib.ListN.{drop}
use Rattle.case_file.specs.Trailer.{words_in}
use Rattle.case_faces.specs.Ensures.{AtFace}
use Rattle.mesh_area.specs.Layout.{points_in}
use Rattle.mesh_measure.specs.Ensures.{faces_at}
use Rattle.reading.specs.Result.{steps}
use Rattle.mesh_volumes.specs.Geometry.{no_weight, add_face_3d}
use Rattle.mesh_measure.proofs.add_faces_3d.Given as goal

abbrev pub invariant-loop : goal.invariant-loop
invariant-loop l = AtFace (words_in l.words) l.h l.c × (l.c.face ≡ l.counter) × (steps (add_face_3d (points_in l.case l.points) l.reference) l.sum (drop l.c.face (faces_at (words_in l.words) l.h)) ≡ steps (add_face_3d (points_in l.case l.points) l.reference) no_weight (faces_at (words_in l.words) l.h))
