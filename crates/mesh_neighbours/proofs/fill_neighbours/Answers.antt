use Rattle.mesh_neighbours.proofs.NeighbourLaws.{filling}
use borrow.Author.Rules.{rules}
use Rattle.mesh_neighbours.proofs.fill_neighbours.Goals as goal

pub loop-i-preserved : goal.loop-i-preserved
loop-i-preserved c = search (filling, rules)

pub returns : goal.returns
returns c = search (filling, rules)
