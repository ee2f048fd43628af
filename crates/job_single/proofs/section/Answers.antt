use Rattle.job_single.proofs.section.Goals as goal

pub returns : goal.returns
returns c = rw c.section-request.ensures at c.job.ensures
