use Rattle.mesh_volumes.specs.Geometry.{centre_3d, cell_of}
use Rattle.mesh_volumes.proofs.centre_3d.Goals as goal

pub returns-then-volume : goal.returns-then-volume
unfolding centre_3d cell_of
returns-then-volume c = rw (c.if-volume.true, c.div-centre.ensures)

pub returns-else-volume : goal.returns-else-volume
unfolding centre_3d cell_of
returns-else-volume c = rw c.if-volume.false
