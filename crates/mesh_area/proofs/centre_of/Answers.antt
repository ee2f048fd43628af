use mathlib.Core.Path.{sym, ap, ◌∙◌}
use Rattle.mesh_area.specs.Tables.{Cell}
use Rattle.mesh_area.proofs.LayoutLaws.{cell-in, cell-out}
use Rattle.mesh_area.specs.Layout.{cell_in, mesh_floats}
use Rattle.mesh_area.proofs.centre_of.Goals as goal

pub returns-then-i-s : goal.returns-then-i-s
unfolding cell_in mesh_floats
returns-then-i-s c = λ words. rw c.floats_end.ensures at c.vec_in.ensures ∙ sym (ap (λ (f : Cell). f.centre) (cell-in _ words _ _ c.if-i-s.true))

pub returns-else-i-s : goal.returns-else-i-s
returns-else-i-s c = λ words. c.new.ensures ∙ sym (ap (λ (f : Cell). f.centre) (cell-out _ words _ _ c.if-i-s.false))
