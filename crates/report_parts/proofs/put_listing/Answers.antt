use borrow.Author.Rules.{rules}
use Rattle.report_parts.proofs.Laws.{text-done, text-refused}
use Rattle.report_parts.proofs.put_listing.Goals as goal

pub returns-then-k-eq0 : goal.returns-then-k-eq0
returns-then-k-eq0 c = search (text-done, rules)

pub returns-else-k-eq0 : goal.returns-else-k-eq0
returns-else-k-eq0 c = search (text-refused, rules)
