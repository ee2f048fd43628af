use Rattle.capi.proofs.Laws.{number-promised}
use Rattle.capi.proofs.alone.hookyellow_locate.Goals as goal

pub returns : goal.returns
returns c = number-promised (rw (c.vector.ensures, c.search.ensures) at c.locate.ensures.promise) c.number_of.ensures.value
