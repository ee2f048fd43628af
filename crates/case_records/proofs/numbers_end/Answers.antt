use borrow.Author.Rules.{rules}
use Rattle.case_records.proofs.EndLaws.{numbers-over, numbers-to}
use Rattle.case_records.proofs.numbers_end.Goals as goal

pub returns-then-words-at : goal.returns-then-words-at
returns-then-words-at c = search (numbers-over, rules)

pub returns : goal.returns
returns c = search (numbers-to, rules)
