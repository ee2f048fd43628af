use Rattle.mesh_geometry.proofs.AnswerLaws.{turn-none, turn-kept, turn-made}
use Rattle.mesh_geometry.proofs.oriented_face.Goals as goal

pub returns-in_err-vector : goal.returns-in_err-vector
returns-in_err-vector c =
    rw c.from_residual.ensures (turn-none _ _ _ _ c.face_area_vector.ensures _ c.in_err-vector.was)

pub returns-then-dot : goal.returns-then-dot
returns-then-dot c =
    turn-made _ _ _ _ c.face_area_vector.ensures _ _ c.in_ok-vector.was c.average_point-centre.ensures _ _ _ c.sub.ensures c.dot.ensures c.if-dot.true _ _ c.reverse.ensures.after c.measured.ensures

pub returns-else-dot : goal.returns-else-dot
returns-else-dot c =
    turn-kept _ _ _ _ c.face_area_vector.ensures _ _ c.in_ok-vector.was c.average_point-centre.ensures _ _ _ c.sub.ensures c.dot.ensures c.if-dot.false _ c.face_of.ensures
