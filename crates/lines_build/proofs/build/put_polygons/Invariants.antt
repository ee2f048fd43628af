use Rattle.lines_field.proofs.BuildLaws.{Building}
use Rattle.mesh_area.specs.Layout.{points_in}
use Rattle.lines_build.proofs.build.put_polygons.Given as goal

abbrev pub invariant-loop-i : goal.invariant-loop-i
invariant-loop-i l = Building (points_in l.case l.points) l.s l.initial.words l.words l.initial.floats l.floats l.i
