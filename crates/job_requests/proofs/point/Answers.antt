use Rattle.job_requests.specs.Requests.{point}
use Rattle.job_requests.proofs.point.Goals as goal

pub returns : goal.returns
unfolding point
returns c = rw (c.new.ensures, c.real-z.ensures, c.real-y.ensures, c.real-x.ensures)
