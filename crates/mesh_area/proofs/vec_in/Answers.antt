use Rattle.mesh_area.specs.Layout.{vec_from}
use Rattle.mesh_area.proofs.vec_in.Goals as goal

pub returns : goal.returns
unfolding vec_from
returns c = rw (c.new.ensures, c.float_in-z.ensures, c.float_in-y.ensures, c.float_in-x.ensures)
