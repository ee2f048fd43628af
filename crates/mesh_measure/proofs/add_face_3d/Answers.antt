use Rattle.case_faces.proofs.FaceLaws.{next-number}
use mathlib.Core.Path.{sym, ◌∙◌, ap}
use lib.ListN.{length-take}
use Rattle.mesh_volumes.specs.Geometry.{add_face_3d}
use Rattle.mesh_measure.specs.Ensures.{weight_of, added, degenerate}
use native.Mathlib.Omega.{arith}
use borrow.Author.Rules.{rules}
use Rattle.mesh_measure.proofs.add_face_3d.Goals as goal

pub slice_bounds-add_turned-end : goal.slice_bounds-add_turned-end
slice_bounds-add_turned-end c = simp length-take (omega arith)

pub add_turned-requires : goal.add_turned-requires
add_turned-requires c = record { point_bytes = search rules; vertices_len_bound = simp length-take (omega arith) }

pub returns-in_err-sum : goal.returns-in_err-sum
unfolding weight_of
returns-in_err-sum c =
    let k = c.copy_face-copied.ensures in
    rw c.from_residual.ensures (degenerate (ap (add_face_3d _ _ _) (sym k.front) ∙ sym c.add_turned.ensures ∙ ap weight_of c.in_err-sum.was))

pub returns : goal.returns
unfolding weight_of
returns c =
    let k = c.copy_face-copied.ensures in
    added (ap (add_face_3d _ _ _) (sym k.front) ∙ sym c.add_turned.ensures ∙ ap weight_of c.in_ok-sum.was) (record { face = next-number _ _ _ _ k.follows; at-face = k.goes })
