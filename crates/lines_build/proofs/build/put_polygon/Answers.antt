use Rattle.lines_build.proofs.build.put_polygon.Goals as goal

pub returns : goal.returns
returns c = rw (← c.polygon-n.ensures.points) c.store_polygon.ensures
