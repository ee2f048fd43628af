use Rattle.mesh_geometry.proofs.face_of.Goals as goal

pub returns : goal.returns
returns c = rw (c.div-normal.ensures, c.norm-area.ensures)
