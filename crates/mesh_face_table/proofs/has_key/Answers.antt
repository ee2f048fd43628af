use lib.ListN.{length-take}
use native.Mathlib.Omega.{arith}
use Rattle.mesh_face_table.proofs.RecordParts.{records}
use borrow.Author.Rules.{rules}
use Rattle.mesh_face_table.proofs.has_key.Goals as goal

pub slice_bounds-same-end : goal.slice_bounds-same-end
slice_bounds-same-end c = simp length-take (omega arith)

pub returns : goal.returns
returns c = search (records, rules)
