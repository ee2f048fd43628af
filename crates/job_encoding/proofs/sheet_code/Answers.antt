use Rattle.job_encoding.specs.Single.{sheet_code}
use Rattle.job_encoding.proofs.sheet_code.Goals as goal

pub returns-in-Bins : goal.returns-in-Bins
unfolding sheet_code
returns-in-Bins c = rw c.in-Bins.is

pub returns-in-All : goal.returns-in-All
unfolding sheet_code
returns-in-All c = rw c.in-All.is
