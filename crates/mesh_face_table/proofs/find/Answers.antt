use lib.ListN.{length-take}
use native.Mathlib.Omega.{arith}
use Rattle.mesh_face_table.proofs.ChainLaws.{lookups}
use borrow.Author.Rules.{rules}
use Rattle.mesh_face_table.proofs.find.Goals as goal

pub slice_bounds-walk-end : goal.slice_bounds-walk-end
slice_bounds-walk-end c = simp length-take (omega arith)

pub returns : goal.returns
returns c = search (lookups, rules)
