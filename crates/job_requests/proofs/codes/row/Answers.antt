use mathlib.Core.Path.{refl}
use Rattle.job_requests.specs.Codes.{row}
use Rattle.job_requests.proofs.codes.row.Goals as goal

pub returns : goal.returns
unfolding row
returns c = refl
