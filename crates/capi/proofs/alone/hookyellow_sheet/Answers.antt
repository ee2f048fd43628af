use Rattle.capi.proofs.Laws.{number-promised}
use Rattle.capi.proofs.alone.hookyellow_sheet.Goals as goal

pub returns : goal.returns
returns c = number-promised (rw (c.vector.ensures, c.settings.ensures, c.search.ensures) at c.sheet.ensures.promise) c.number_of.ensures.value
