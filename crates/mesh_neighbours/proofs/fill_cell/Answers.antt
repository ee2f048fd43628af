use Rattle.mesh_neighbours.proofs.NeighbourLaws.{counting}
use borrow.Author.Rules.{rules}
use Rattle.mesh_neighbours.proofs.fill_cell.Goals as goal

pub returns : goal.returns
returns c = search (counting, rules)
