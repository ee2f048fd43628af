use Rattle.mesh_face_table.proofs.RecordParts.{read-link}
use Rattle.mesh_face_table.proofs.link_of.Goals as goal

pub returns : goal.returns
returns c = read-link _ _
