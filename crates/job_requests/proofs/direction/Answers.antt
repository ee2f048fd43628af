use mathlib.Core.Path.{sym}
use borrow.Author.Tests.{ne_eqb}
use Rattle.job_requests.specs.Requests.{direction}
use Rattle.job_requests.proofs.direction.Goals as goal

pub returns-then-number-eq0 : goal.returns-then-number-eq0
unfolding direction
returns-then-number-eq0 c = rw (sym c.number.ensures, c.if-number-eq0.true)

pub returns-else-number-eq0 : goal.returns-else-number-eq0
unfolding direction
returns-else-number-eq0 c = rw (sym c.number.ensures, ne_eqb _ _ c.if-number-eq0.false)
