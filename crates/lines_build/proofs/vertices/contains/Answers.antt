use Rattle.lines_field.proofs.VertexLaws.{contains-here, contains-next, contains-end}
use borrow.Author.Rules.{rules}
use Rattle.lines_build.proofs.vertices.contains.Goals as goal

pub returns-then-alike : goal.returns-then-alike
returns-then-alike c = search (contains-here, rules)

pub loop-k-preserved : goal.loop-k-preserved
loop-k-preserved c = search (contains-next, rules)

pub returns : goal.returns
returns c = search (contains-end, rules)
