use Rattle.mesh_geometry.proofs.side_cross.Goals as goal

pub returns : goal.returns
returns c = rw (c.cross.ensures, c.vertex_point-second.ensures, c.next_of.ensures.0, c.vertex_point-first.ensures)
