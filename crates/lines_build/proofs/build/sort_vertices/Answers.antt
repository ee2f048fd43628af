use Rattle.lines_field.proofs.PolygonLaws.{sorted_all}
use native.Mathlib.Omega.{arith}
use lib.ListN.{length-take}
use Rattle.lines_build.proofs.build.sort_vertices.Goals as goal

pub slice_bounds-sort_by_angle-end : goal.slice_bounds-sort_by_angle-end
slice_bounds-sort_by_angle-end c = simp length-take (omega arith)

pub slice_bounds-sort_by_angle-end-2 : goal.slice_bounds-sort_by_angle-end-2
slice_bounds-sort_by_angle-end-2 c = simp length-take (omega arith)

pub slice_bounds-sort_by_angle-end-4 : goal.slice_bounds-sort_by_angle-end-4
slice_bounds-sort_by_angle-end-4 c = simp length-take (omega arith)

pub sort_by_angle-requires : goal.sort_by_angle-requires
sort_by_angle-requires c = simp length-take (omega arith)

pub returns : goal.returns
returns c = sorted_all _ _ _ _ _ _ c.angles_about.ensures _ _ (simp length-take (omega arith)) c.sort_by_angle.ensures.places_after
