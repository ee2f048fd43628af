use Rattle.capi_values.specs.Convert.{rake_of}
use Rattle.capi_values.proofs.convert.seeds.Goals as goal

pub returns : goal.returns
unfolding rake_of
returns c = rw (c.vector-2.ensures, c.vector.ensures)
