use Rattle.mesh_face_table.proofs.RecordParts.{areas}
use borrow.Author.Rules.{rules}
use Rattle.mesh_face_table.proofs.head_of.Goals as goal

pub returns : goal.returns
returns c = search (areas, rules)
