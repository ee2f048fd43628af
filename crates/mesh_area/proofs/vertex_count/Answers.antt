use mathlib.Core.Path.{sym, ap, ◌∙◌}
use lib.ListN.{length}
use Rattle.mesh_area.specs.Tables.{Face}
use Rattle.mesh_area.proofs.LayoutLaws.{face-in, face-out, length-list_at}
use Rattle.mesh_area.specs.Layout.{face_in}
use borrow.Author.Rules.{rules}
use Rattle.mesh_area.proofs.vertex_count.Goals as goal

pub returns-then-f-s : goal.returns-then-f-s
unfolding face_in
returns-then-f-s c = (λ floats. c.face_word.ensures.0 ∙ sym (length-list_at _ _ _) ∙ sym (ap (λ (f : Face). length f.vertices) (face-in _ _ floats _ c.if-f-s.true)), c.face_word.ensures.1)

pub returns-else-f-s : goal.returns-else-f-s
returns-else-f-s c = (λ floats. sym (ap (λ (f : Face). length f.vertices) (face-out _ _ floats _ c.if-f-s.false)), search rules)
