use Rattle.planes_crossings.specs.Ensures.{point_in}
use Rattle.planes_sections.specs.Ensures.{AnglesOfExit}
use Rattle.planes_sections.proofs.angles.angles_of.Given as goal

abbrev pub invariant-loop-i : goal.invariant-loop-i
invariant-loop-i l = AnglesOfExit l.plane l.centre (point_in l.x l.y l.z) l.i l.quarters l.slopes
