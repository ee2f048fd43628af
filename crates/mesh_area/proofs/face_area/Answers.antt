use mathlib.Core.Path.{sym, ap, ◌∙◌}
use Rattle.mesh_area.specs.Tables.{Face}
use Rattle.mesh_area.proofs.LayoutLaws.{face-in, face-out}
use Rattle.mesh_area.specs.Layout.{face_in, mesh_floats}
use Rattle.mesh_area.proofs.face_area.Goals as goal

pub returns-then-f-s : goal.returns-then-f-s
unfolding face_in mesh_floats
returns-then-f-s c = λ words. rw c.floats_end.ensures at c.float_in.ensures ∙ sym (ap (λ (f : Face). f.area) (face-in _ words _ _ c.if-f-s.true))

pub returns-else-f-s : goal.returns-else-f-s
returns-else-f-s c = λ words. sym (ap (λ (f : Face). f.area) (face-out _ words _ _ c.if-f-s.false))
