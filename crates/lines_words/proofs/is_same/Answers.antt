use Rattle.lines_words.proofs.SheetLaws.{same-on, same-off}
use borrow.Author.Rules.{rules}
use Rattle.lines_words.proofs.is_same.Goals as goal

pub returns-then-a-b : goal.returns-then-a-b
returns-then-a-b c = same-on _ _ (search rules) (search rules) (search rules) (search rules) c.if-a-b.true

pub returns-else-a-b : goal.returns-else-a-b
returns-else-a-b c = same-off _ _ (search rules) (search rules) c.if-a-b.false
