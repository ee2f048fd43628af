use borrow.Author.Tests.{lt-ltb, le-ltb}
use Rattle.job_requests.specs.Requests.{plain_code}
use Rattle.job_requests.proofs.plain_code.Goals as goal

pub returns-then-code-gt8 : goal.returns-then-code-gt8
unfolding plain_code
returns-then-code-gt8 c = rw (lt-ltb _ _ c.if-code-gt8.true)

pub returns-else-code-gt8 : goal.returns-else-code-gt8
unfolding plain_code
returns-else-code-gt8 c = rw (le-ltb _ _ c.if-code-gt8.false)
