use Prim.Native.Nat.{◌-◌, ◌≤◌}
use lib.ListN.{length, drop}
use mathlib.Core.Path.{◌≡◌}
use Rattle.case_definitions.specs.Definitions.{face_lists}
use Rattle.case_definitions.specs.Ensures.{skipped}
use Rattle.case_records.proofs.skip_faces.Given as goal

-- `case_records::skip_faces` meets its contract. Assumes nothing.
abbrev pub invariant-loop : goal.invariant-loop
invariant-loop l =
    (l.at ≤ length l.words) × (skipped l.words (face_lists (l.n - l.counter) (drop l.at l.words)) ≡ skipped l.words (face_lists l.n (drop l.first l.words)))
