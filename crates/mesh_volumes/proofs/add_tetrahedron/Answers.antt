use Rattle.mesh_volumes.specs.Geometry.{add_tetrahedron}
use Rattle.mesh_volumes.proofs.add_tetrahedron.Goals as goal

pub returns : goal.returns
unfolding add_tetrahedron
returns c = rw (c.add_volume.ensures, c.vertex_point-c.ensures, c.vertex_point-b.ensures, c.vertex_point-a.ensures)
