use Rattle.answers.proofs.BufferLaws.{close-refused, close-fits, close-44}
use borrow.Author.Rules.{rules}
use Rattle.answers.proofs.buffers.close.Goals as goal

pub returns-in-Err : goal.returns-in-Err
returns-in-Err c = close-refused _ c.in-Err.is (rw c.number.ensures at c.put_header.ensures)

pub returns-then-k-answers : goal.returns-then-k-answers
returns-then-k-answers c = close-fits _ c.in-Ok.is (search rules) (search rules) c.put_header-then-k-answers.ensures

pub returns-else-k-answers : goal.returns-else-k-answers
returns-else-k-answers c = close-44 _ c.in-Ok.is (search rules) (search rules) (rw c.number-else-k-answers.ensures at c.put_header-else-k-answers.ensures)
