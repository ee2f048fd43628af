use Rattle.capi.proofs.Laws.{number-promised}
use Rattle.capi.proofs.alone.hookyellow_probe.Goals as goal

pub returns : goal.returns
returns c = number-promised (rw (c.plane.ensures, c.vector.ensures) at c.probe.ensures.promise) c.number_of.ensures.value
