use borrow.Author.Rules.{rules}
use Rattle.case_records.proofs.EndLaws.{count_none, count-over, count-within}
use Rattle.case_records.proofs.faces_end.Goals as goal

pub returns-then-words-at : goal.returns-then-words-at
returns-then-words-at c = search (count_none, rules)

pub returns-then-n-gt24 : goal.returns-then-n-gt24
returns-then-n-gt24 c = search (count-over, rules)

pub returns : goal.returns
returns c = search (count-within, rules)
