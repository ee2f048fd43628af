use Rattle.mesh_geometry.proofs.AnswerLaws.{measured-face, measured-none}
use Rattle.mesh_geometry.proofs.measured.Goals as goal

pub returns-in_err-vector : goal.returns-in_err-vector
returns-in_err-vector c =
    rw c.from_residual.ensures (measured-none _ _ _ _ c.face_area_vector.ensures c.in_err-vector.was)

pub returns : goal.returns
returns c =
    measured-face _ _ _ _ c.face_area_vector.ensures _ _ c.in_ok-vector.was c.average_point-centre.ensures _ c.face_of.ensures
