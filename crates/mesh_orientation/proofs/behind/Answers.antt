use Rattle.mesh_orientation.specs.Orientation.{behind}
use Rattle.mesh_orientation.proofs.behind.Goals as goal

pub returns : goal.returns
unfolding behind
returns c = rw (c.dot.ensures, c.sub.ensures)
