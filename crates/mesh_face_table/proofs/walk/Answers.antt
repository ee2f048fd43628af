use Rattle.mesh_face_table.proofs.ChainLaws.{walks}
use borrow.Author.Rules.{rules}
use Rattle.mesh_face_table.proofs.walk.Goals as goal

pub loop-at-init : goal.loop-at-init
loop-at-init c = search (walks, rules)

pub has_key-requires : goal.has_key-requires
has_key-requires c = search (walks, rules)

pub returns-then-has_key : goal.returns-then-has_key
returns-then-has_key c = search (walks, rules)

pub loop-at-smaller : goal.loop-at-smaller
loop-at-smaller c = search (walks, rules)

pub loop-at-preserved : goal.loop-at-preserved
loop-at-preserved c = search (walks, rules)

pub returns : goal.returns
returns c = search (walks, rules)
