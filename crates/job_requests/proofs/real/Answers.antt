use Rattle.job_requests.specs.Requests.{real}
use Rattle.job_requests.proofs.real.Goals as goal

pub returns : goal.returns
unfolding real
returns c = rw (c.float_of.ensures, c.number.ensures)
