use mathlib.Core.Path.{sym, ◌∙◌}
use Rattle.mesh_area.proofs.LayoutLaws.{point-in, point-out}
use Rattle.mesh_area.proofs.point_at.Goals as goal

pub returns-then-i-points : goal.returns-then-i-points
returns-then-i-points c = c.vec_at.ensures ∙ sym (point-in _ _ _ c.if-i-points.true)

pub returns-else-i-points : goal.returns-else-i-points
returns-else-i-points c = c.new.ensures ∙ sym (point-out _ _ _ c.if-i-points.false)
