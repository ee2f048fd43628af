use Rattle.mesh_connection.proofs.SearchLaws.{turns}
use borrow.Author.Rules.{rules}
use Rattle.mesh_connection.proofs.spread.Goals as goal

pub meet-last-requires : goal.meet-last-requires
meet-last-requires c = search (turns, rules)

pub loop-m-preserved : goal.loop-m-preserved
loop-m-preserved c = search (turns, rules)

pub returns : goal.returns
returns c = search (turns, rules)
