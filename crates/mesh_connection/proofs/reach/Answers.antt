use Rattle.mesh_connection.proofs.SearchLaws.{searches}
use borrow.Author.Rules.{rules}
use Rattle.mesh_connection.proofs.reach.Goals as goal

pub spread-tail-requires : goal.spread-tail-requires
spread-tail-requires c = search (searches, rules)

pub loop-head-preserved : goal.loop-head-preserved
loop-head-preserved c = search (searches, rules)
