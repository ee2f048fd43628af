use Rattle.job_requests.specs.Requests.{wrong_dimension}
use Rattle.job_requests.proofs.is_wrong_dimension.Goals as goal

pub returns-then-flat : goal.returns-then-flat
unfolding wrong_dimension
returns-then-flat c = rw c.if-flat.true

pub returns-else-flat : goal.returns-else-flat
unfolding wrong_dimension
returns-else-flat c = rw c.if-flat.false
