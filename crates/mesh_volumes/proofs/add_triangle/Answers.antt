use Rattle.mesh_volumes.specs.Geometry.{add_triangle, twice_area}
use Rattle.mesh_volumes.proofs.add_triangle.Goals as goal

pub returns : goal.returns
unfolding add_triangle twice_area
returns c =
    rw (c.add_part.ensures, c.scale.ensures, c.add.ensures, c.sub-q.ensures, c.point_at-2.ensures, c.sub-p.ensures, c.point_at.ensures)
