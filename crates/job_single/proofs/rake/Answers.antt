use Rattle.job_single.proofs.rake.Goals as goal

pub returns : goal.returns
returns c = rw c.rake-request.ensures at c.job.ensures
