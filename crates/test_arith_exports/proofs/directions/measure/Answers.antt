use native.Mathlib.Omega.{arith}
use mathlib.Core.Path.{refl, ap}
use Rattle.arith_angles.specs.Angle.{angle_of}
use Rattle.arith.specs.Records.{tab}
use Rattle.arith_angles.specs.declared.Angle.{Angle}
use Rattle.test_arith_exports.specs.Directions.{direction_at, quarters, slopes}
use Rattle.test_arith_exports.proofs.Laws.{fill-turn, fill_done}
use Rattle.test_arith_exports.proofs.directions.measure.Goals as goal

pub loop-i-init : goal.loop-i-init
unfolding quarters slopes tab
loop-i-init c = (refl, refl)

pub loop-i-preserved : goal.loop-i-preserved
unfolding quarters slopes angle_of direction_at
loop-i-preserved c =
    let i = c.loop-i.invariant in
    let e = c.angle_of-angle.ensures in (
      fill-turn _ _ _ _ (omega arith) i.0 (ap (λ (a : Angle). a.quarter) e),
      fill-turn _ _ _ _ (omega arith) i.1 (ap (λ (a : Angle). a.slope) e),
    )

pub returns : goal.returns
unfolding quarters slopes
returns c =
    let i = c.loop-i.invariant in
    let p = c.requires in
    record {
      quarters_after = fill_done _ _ _ _ i.0 (omega arith) (omega arith) (omega arith);
      slopes_after = fill_done _ _ _ _ i.1 (omega arith) (omega arith) (omega arith);
    }
