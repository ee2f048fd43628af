use Rattle.lines_locate.proofs.place_along.Goals as goal

pub returns : goal.returns
returns c = rw (c.clamp.ensures, c.as_float.ensures)
