use borrow.Author.Tests.{lt-ltb, le-ltb}
use Rattle.job_requests.specs.Requests.{bad_direction}
use Rattle.job_requests.proofs.has_bad_direction.Goals as goal

pub returns-then-c-gt0 : goal.returns-then-c-gt0
unfolding bad_direction
returns-then-c-gt0 c = rw (lt-ltb _ _ c.if-c-gt0.true, c.number.ensures)

pub returns-else-c-gt0 : goal.returns-else-c-gt0
unfolding bad_direction
returns-else-c-gt0 c = rw (le-ltb _ _ c.if-c-gt0.false)
