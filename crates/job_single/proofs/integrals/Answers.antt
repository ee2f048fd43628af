use Rattle.job_single.proofs.integrals.Goals as goal

pub returns : goal.returns
returns c = rw c.integrals-request.ensures at c.job.ensures
