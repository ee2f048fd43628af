use Rattle.mesh_connection.proofs.SearchLaws.{search-done, searches}
use borrow.Author.Rules.{rules}
use Rattle.mesh_connection.proofs.ensure_connected.Goals as goal

pub returns-then-s-le1 : goal.returns-then-s-le1
returns-then-s-le1 c = search (searches, rules)

pub reach-requires : goal.reach-requires
reach-requires c = search (searches, rules)

pub returns : goal.returns
returns c =
    search-done _ _ _ _ _ _ c.start.ensures c.reach.ensures
