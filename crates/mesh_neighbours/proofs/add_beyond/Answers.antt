use Rattle.mesh_neighbours.proofs.NeighbourLaws.{crossing}
use borrow.Author.Rules.{rules}
use Rattle.mesh_neighbours.proofs.add_beyond.Goals as goal

pub returns-in_default : goal.returns-in_default
returns-in_default c = search (crossing, rules)

pub returns : goal.returns
returns c = search (crossing, rules)
