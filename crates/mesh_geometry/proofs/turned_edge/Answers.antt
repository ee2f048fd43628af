use Rattle.mesh_geometry.specs.Faces.{vector_in, turned_edge}
use Rattle.mesh_geometry.proofs.turned_edge.Goals as goal

pub returns : goal.returns
unfolding vector_in turned_edge
returns c =
    rw (c.new.ensures, c.sub-edge.ensures, c.vertex_point-second.ensures, c.vertex_point-first.ensures)
