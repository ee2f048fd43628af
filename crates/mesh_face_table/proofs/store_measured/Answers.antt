use Rattle.mesh_face_table.proofs.RecordParts.{areas}
use borrow.Author.Rules.{rules}
use Rattle.mesh_face_table.proofs.store_measured.Goals as goal

pub returns : goal.returns
returns c = search (areas, rules)
