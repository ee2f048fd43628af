use Rattle.capi_values.specs.Convert.{plane_of}
use Rattle.capi_values.proofs.convert.plane.Goals as goal

pub returns : goal.returns
unfolding plane_of
returns c = rw (c.vector-3.ensures, c.vector-2.ensures, c.vector.ensures)
