use mathlib.Core.Path.{sym, ap, ◌∙◌}
use Rattle.mesh_area.specs.Tables.{Face}
use Rattle.mesh_area.proofs.LayoutLaws.{face-in, face-out}
use Rattle.mesh_area.specs.Layout.{face_in}
use borrow.Author.Rules.{rules}
use Rattle.mesh_area.proofs.owner_of.Goals as goal

pub returns-then-f-s : goal.returns-then-f-s
unfolding face_in
returns-then-f-s c = (λ floats. c.face_word.ensures.0 ∙ sym (ap (λ (f : Face). f.owner) (face-in _ _ floats _ c.if-f-s.true)), c.face_word.ensures.1)

pub returns-else-f-s : goal.returns-else-f-s
returns-else-f-s c = (λ floats. sym (ap (λ (f : Face). f.owner) (face-out _ _ floats _ c.if-f-s.false)), search rules)
