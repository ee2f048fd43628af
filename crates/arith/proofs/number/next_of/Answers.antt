use Rattle.std.proofs.Common.{rules, eq-eqb, ne_eqb}
use Rattle.arith.proofs.number.next_of.Goals as goal

pub returns-then-j-n : goal.returns-then-j-n
returns-then-j-n c = (rw (eq-eqb _ _ c.if-j-n.true), search rules)

pub returns-else-j-n : goal.returns-else-j-n
returns-else-j-n c = (rw (ne_eqb _ _ c.if-j-n.false), search rules)
