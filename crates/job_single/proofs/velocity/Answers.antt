use Rattle.job_single.proofs.velocity.Goals as goal

pub returns : goal.returns
returns c = rw c.velocity-request.ensures at c.job.ensures
