use Rattle.capi.proofs.Laws.{number-promised}
use Rattle.capi.proofs.alone.hookyellow_velocity.Goals as goal

pub returns : goal.returns
returns c = number-promised (rw (c.vector.ensures, c.search.ensures) at c.velocity.ensures.promise) c.number_of.ensures.value
