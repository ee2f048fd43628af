use Rattle.capi.proofs.Laws.{number-promised}
use Rattle.capi.proofs.alone.hookyellow_statistics.Goals as goal

pub returns : goal.returns
returns c = number-promised (rw c.plane.ensures at c.statistics.ensures.promise) c.number_of.ensures.value
