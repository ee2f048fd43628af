use Rattle.mesh_volumes.specs.Geometry.{centre_2d, cell_of}
use Rattle.mesh_volumes.proofs.centre_2d.Goals as goal

pub returns-then-area : goal.returns-then-area
unfolding centre_2d cell_of
returns-then-area c =
    rw (← c.abs-area.ensures, c.if-area.true, c.add-centre.ensures, c.div.ensures)

pub returns-else-area : goal.returns-else-area
unfolding centre_2d cell_of
returns-else-area c = rw (← c.abs-area.ensures, c.if-area.false)
