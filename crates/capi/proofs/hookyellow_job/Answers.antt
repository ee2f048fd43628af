use Rattle.capi.proofs.Laws.{number-promised}
use Rattle.capi.proofs.hookyellow_job.Goals as goal

pub returns : goal.returns
returns c = number-promised c.job.ensures.promise c.number_of.ensures.value
