use Rattle.job_single.proofs.statistics.Goals as goal

pub returns : goal.returns
returns c = rw c.statistics-request.ensures at c.job.ensures
