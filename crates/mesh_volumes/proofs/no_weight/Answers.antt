use Rattle.mesh_volumes.specs.Geometry.{no_weight}
use Rattle.mesh_volumes.proofs.no_weight.Goals as goal

pub returns : goal.returns
unfolding no_weight
returns c = rw c.new.ensures
