use Rattle.planes_crossings.proofs.crossings.end_at.Goals as goal

pub returns : goal.returns
returns c = (c.face_vertex-point.ensures, record { same = c.height-height.ensures })
