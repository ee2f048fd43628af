use Rattle.job_single.proofs.probe.Goals as goal

pub returns : goal.returns
returns c = rw c.probe-request.ensures at c.job.ensures
