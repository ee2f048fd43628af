use Rattle.lines_field.proofs.PolygonLaws.{angles-turn}
use native.Mathlib.Omega.{arith}
use Rattle.lines_build.proofs.build.angles_about.Goals as goal

pub loop-k-preserved : goal.loop-k-preserved
loop-k-preserved c = angles-turn _ _ _ _ _ _ _ c.loop-k.invariant c.angle_of-a.ensures (omega arith) (omega arith)
