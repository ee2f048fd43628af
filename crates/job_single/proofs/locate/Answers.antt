use Rattle.job_single.proofs.locate.Goals as goal

pub returns : goal.returns
returns c = rw c.locate-request.ensures at c.job.ensures
