use Rattle.mesh_area.proofs.LayoutLaws.{read-in, read_out}
use borrow.Author.Rules.{rules}
use Rattle.mesh_area.proofs.word_in.Goals as goal

pub returns-then-i-end : goal.returns-then-i-end
returns-then-i-end c = (read-in _ _ _ 0 c.if-i-end.true, search rules)

pub returns-else-i-end : goal.returns-else-i-end
returns-else-i-end c = (read_out _ _ _ 0 c.requires c.if-i-end.false, search rules)
