use mathlib.Core.Path.{sym, ap, ◌∙◌}
use Rattle.mesh_area.specs.Tables.{Face}
use Rattle.mesh_area.proofs.LayoutLaws.{face-in, face-out, found_none, found-one}
use Rattle.mesh_area.specs.Layout.{face_in, found}
use Rattle.mesh_area.proofs.neighbour_of.Goals as goal

pub returns-then-n-eq0 : goal.returns-then-n-eq0
unfolding face_in
returns-then-n-eq0 c = λ floats. found_none _ c.if-n-eq0.true ∙ ap found c.face_word-n.ensures.0 ∙ sym (ap (λ (f : Face). f.neighbour) (face-in _ _ floats _ c.if-f-s.true))

pub returns-else-n-eq0 : goal.returns-else-n-eq0
unfolding face_in
returns-else-n-eq0 c = λ floats. found-one _ c.if-n-eq0.false ∙ ap found c.face_word-n.ensures.0 ∙ sym (ap (λ (f : Face). f.neighbour) (face-in _ _ floats _ c.if-f-s.true))

pub returns-else-f-s : goal.returns-else-f-s
returns-else-f-s c = λ floats. sym (ap (λ (f : Face). f.neighbour) (face-out _ _ floats _ c.if-f-s.false))
