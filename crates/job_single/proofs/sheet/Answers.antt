use Rattle.job_single.proofs.sheet.Goals as goal

pub returns : goal.returns
returns c = rw c.sheet-request.ensures at c.job.ensures
