use Prim.Native.Nat.{◌-◌, ◌≤◌}
use lib.ListN.{length, drop}
use mathlib.Core.Path.{◌≡◌}
use Rattle.case_definitions.specs.Definitions.{definitions}
use Rattle.case_records.specs.Ensures.{checked}
use Rattle.case_records.proofs.walk.Given as goal

abbrev pub invariant-loop-i : goal.invariant-loop-i
invariant-loop-i l =
    (l.at ≤ length l.words) × (l.wait ≤ 8) × (checked (definitions (l.cells - l.i) (drop l.at l.words)) ≡ checked (definitions l.cells l.words))

abbrev pub decreases-loop-i : goal.decreases-loop-i
decreases-loop-i l = l.cells - l.i
