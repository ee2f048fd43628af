use Rattle.mesh_volumes.specs.Geometry.{add_volume}
use Rattle.mesh_volumes.proofs.add_volume.Goals as goal

pub returns : goal.returns
unfolding add_volume
returns c =
    rw (c.add_part.ensures, c.scale.ensures, c.add-3.ensures, c.add-2.ensures, c.add.ensures, c.tetrahedron_volume-v.ensures)
