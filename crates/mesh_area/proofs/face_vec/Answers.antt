use Rattle.mesh_area.specs.Layout.{mesh_floats}
use Rattle.mesh_area.proofs.face_vec.Goals as goal

pub returns : goal.returns
unfolding mesh_floats
returns c = rw c.floats_end.ensures at c.vec_in.ensures
