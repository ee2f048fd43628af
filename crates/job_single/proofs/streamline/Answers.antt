use Rattle.job_single.proofs.streamline.Goals as goal

pub returns : goal.returns
returns c = rw c.streamline-request.ensures at c.job.ensures
