use Rattle.mesh_volumes.proofs.TetrahedronLaws.{tetrahedra-start, tetrahedra-turn, tetrahedra-done}
use borrow.Author.Rules.{rules}
use Rattle.mesh_volumes.proofs.add_tetrahedra.Goals as goal

pub loop-j-init : goal.loop-j-init
loop-j-init c = search (tetrahedra-start, rules)

pub loop-j-preserved : goal.loop-j-preserved
loop-j-preserved c = search (tetrahedra-turn, rules)

pub returns : goal.returns
returns c = search (tetrahedra-done, rules)
