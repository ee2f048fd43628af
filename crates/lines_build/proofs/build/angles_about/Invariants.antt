use Rattle.lines_field.specs.Ensures.{AnglesAboutExit}
use Rattle.lines_build.proofs.build.angles_about.Given as goal

abbrev pub invariant-loop-k : goal.invariant-loop-k
invariant-loop-k l = AnglesAboutExit l.centre l.xs l.ys l.quarters l.slopes l.k
