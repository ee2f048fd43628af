use Rattle.job_requests.specs.Requests.{settings}
use Rattle.job_requests.proofs.settings.Goals as goal

pub returns : goal.returns
unfolding settings
returns c = rw (c.direction.ensures, c.options.ensures)
