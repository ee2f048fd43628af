use Rattle.capi_values.specs.Convert.{settings_of}
use Rattle.capi_values.proofs.convert.settings.Goals as goal

pub returns : goal.returns
unfolding settings_of
returns c = rw (c.options.ensures, c.direction.ensures)
