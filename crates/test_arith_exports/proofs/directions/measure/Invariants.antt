use mathlib.Core.Path.{◌≡◌}
use lib.ListN.{take}
use Rattle.test_arith_exports.specs.Directions.{quarters, slopes}
use Rattle.test_arith_exports.proofs.directions.measure.Given as goal

abbrev pub invariant-loop-i : goal.invariant-loop-i
invariant-loop-i l = (take l.i l.quarters ≡ quarters l.dx l.dy l.i) × (take l.i l.slopes ≡ slopes l.dx l.dy l.i)
