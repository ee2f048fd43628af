use Rattle.mesh_face_table.proofs.RecordParts.{face-put}
use Rattle.mesh_face_table.proofs.put_face.Goals as goal

pub returns : goal.returns
returns c = face-put _ _ _ _ _ c.copy_from_slice.ensures.after c.requires.0 c.requires.1
