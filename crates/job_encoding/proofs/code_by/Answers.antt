use Rattle.job_encoding.specs.Single.{code_by}
use Rattle.job_encoding.proofs.code_by.Goals as goal

pub returns-in-Bins : goal.returns-in-Bins
unfolding code_by
returns-in-Bins c = rw c.in-Bins.is

pub returns-in-All : goal.returns-in-All
unfolding code_by
returns-in-All c = rw c.in-All.is
