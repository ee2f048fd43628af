use mathlib.Core.Path.{refl}
use Rattle.capi_values.specs.Convert.{counts_from}
use Rattle.capi_values.proofs.convert.counts.Goals as goal

pub returns : goal.returns
unfolding counts_from
returns c = refl
