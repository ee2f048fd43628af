use Rattle.mesh_volumes.specs.Geometry.{add_part}
use Rattle.mesh_volumes.proofs.add_part.Goals as goal

pub returns : goal.returns
unfolding add_part
returns c = rw c.add.ensures
