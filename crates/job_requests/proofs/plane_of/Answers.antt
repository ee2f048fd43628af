use Rattle.job_requests.specs.Requests.{plane_of}
use Rattle.job_requests.proofs.plane_of.Goals as goal

pub returns : goal.returns
unfolding plane_of
returns c = rw (c.point-v.ensures, c.point-u.ensures, c.point-origin.ensures)
