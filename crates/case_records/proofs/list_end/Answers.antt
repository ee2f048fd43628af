use borrow.Author.Rules.{rules}
use Rattle.case_records.proofs.EndLaws.{count_none, count-over, count-within}
use Rattle.case_records.proofs.list_end.Goals as goal

pub returns-then-words-at : goal.returns-then-words-at
returns-then-words-at c = search (count_none, rules)

pub returns-then-limit-n : goal.returns-then-limit-n
returns-then-limit-n c = search (count-over, rules)

pub returns : goal.returns
returns c = search (count-within, rules)
