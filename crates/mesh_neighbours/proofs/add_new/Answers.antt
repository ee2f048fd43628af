use Rattle.mesh_neighbours.proofs.NeighbourLaws.{adding}
use borrow.Author.Rules.{rules}
use Rattle.mesh_neighbours.proofs.add_new.Goals as goal

pub returns-then-listed : goal.returns-then-listed
returns-then-listed c = search (adding, rules)

pub returns : goal.returns
returns c = search (adding, rules)
