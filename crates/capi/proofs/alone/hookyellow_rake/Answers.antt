use Rattle.capi.proofs.Laws.{number-promised}
use Rattle.capi.proofs.alone.hookyellow_rake.Goals as goal

pub returns : goal.returns
returns c = number-promised (rw (c.seeds.ensures, c.settings.ensures, c.search.ensures) at c.rake.ensures.promise) c.number_of.ensures.value
