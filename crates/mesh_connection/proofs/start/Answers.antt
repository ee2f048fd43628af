use Rattle.mesh_connection.proofs.SearchLaws.{searches}
use borrow.Author.Rules.{rules}
use Rattle.mesh_connection.proofs.start.Goals as goal

pub returns : goal.returns
returns c = search (searches, rules)
