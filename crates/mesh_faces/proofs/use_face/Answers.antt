use Rattle.mesh_faces.proofs.AreaLaws.{uses}
use borrow.Author.Rules.{rules}
use Rattle.mesh_faces.proofs.use_face.Goals as goal

pub settle-requires : goal.settle-requires
settle-requires c = search (uses, rules)

pub returns : goal.returns
returns c = search (uses, rules)
