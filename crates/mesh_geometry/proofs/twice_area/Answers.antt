use Rattle.mesh_geometry.proofs.FaceLaws.{cross-turn, cross-done}
use borrow.Author.Rules.{rules}
use Rattle.mesh_geometry.proofs.twice_area.Goals as goal

pub loop-i-init : goal.loop-i-init
loop-i-init c = rw c.new-sum.ensures

pub loop-i-preserved : goal.loop-i-preserved
loop-i-preserved c = search (cross-turn, rules)

pub returns : goal.returns
returns c = search (cross-done, rules)
