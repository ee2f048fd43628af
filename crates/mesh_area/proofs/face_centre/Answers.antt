use mathlib.Core.Path.{sym, ap, ◌∙◌}
use Rattle.mesh_area.specs.Tables.{Face}
use Rattle.mesh_area.proofs.LayoutLaws.{face-in, face-out}
use Rattle.mesh_area.specs.Layout.{face_in}
use Rattle.mesh_area.proofs.face_centre.Goals as goal

pub returns-then-f-s : goal.returns-then-f-s
unfolding face_in
returns-then-f-s c = λ words. c.face_vec.ensures ∙ sym (ap (λ (f : Face). f.centre) (face-in _ words _ _ c.if-f-s.true))

pub returns-else-f-s : goal.returns-else-f-s
returns-else-f-s c = λ words. c.new.ensures ∙ sym (ap (λ (f : Face). f.centre) (face-out _ words _ _ c.if-f-s.false))
