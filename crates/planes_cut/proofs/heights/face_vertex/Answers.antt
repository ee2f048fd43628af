use mathlib.Core.List.{[]}
use Rattle.mesh_area.specs.Layout.{mesh_in}
use Rattle.planes_cut.specs.Ensures.{face_vertex, bare}
use Rattle.planes_cut.proofs.heights.face_vertex.Goals as goal

pub returns : goal.returns
unfolding face_vertex bare mesh_in
returns c = rw (c.point_at.ensures, c.vertex-i.ensures.0 [])
