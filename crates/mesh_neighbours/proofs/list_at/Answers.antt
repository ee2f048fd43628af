use Rattle.mesh_neighbours.proofs.NeighbourLaws.{listings}
use borrow.Author.Rules.{rules}
use Rattle.mesh_neighbours.proofs.list_at.Goals as goal

pub loop-k-init : goal.loop-k-init
loop-k-init c = search (listings, rules)

pub loop-k-preserved : goal.loop-k-preserved
loop-k-preserved c = search (listings, rules)

pub returns : goal.returns
returns c = search (listings, rules)
