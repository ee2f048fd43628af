use mathlib.Core.Path.{refl}
use Rattle.mesh_faces.proofs.TableLaws.{extended}
use borrow.Author.Rules.{rules}
use Rattle.mesh_faces.proofs.add.Goals as goal

pub returns : goal.returns
returns c =
    extended _ _ _ _ _ _ _ _ _ _ _ _ _ c.requires c.sum.ensures c.head_of-link.ensures c.store_face.ensures (search rules) refl c.store_head.ensures c.store_measured.ensures
