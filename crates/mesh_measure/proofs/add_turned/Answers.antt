use mathlib.Core.Path.{sym, ◌∙◌, ap}
use Rattle.mesh_volumes.proofs.TetrahedronLaws.{face-added, face-refused}
use Rattle.mesh_measure.specs.Ensures.{weight_of}
use Rattle.mesh_measure.proofs.add_turned.Goals as goal
use Rattle.std.specs.Prelude.{Ok}

pub returns-in_err-oriented_face : goal.returns-in_err-oriented_face
unfolding weight_of
returns-in_err-oriented_face c =
    rw c.from_residual.ensures (sym (face-refused _ _ _ _ _ _ c.oriented_face.ensures c.in_err-oriented_face.was))

pub returns : goal.returns
unfolding weight_of
returns c =
    ap Ok c.add_tetrahedra.ensures ∙ sym (face-added _ _ _ _ _ _ c.oriented_face.ensures _ c.in_ok-oriented_face.was)
