use Prim.Native.Nat.{◌-◌, ◌≤◌}
use lib.ListN.{length, drop}
use mathlib.Core.Path.{◌≡◌}
use Rattle.case_definitions.proofs.RecordLaws.{walked_from}
use Rattle.case_definitions.specs.Definitions.{definitions}
use Rattle.case_file.specs.Trailer.{words_in}
use Rattle.case_definitions.specs.Ensures.{walked}
use Rattle.case_definitions.proofs.walker.walk.Given as goal

-- `case_definitions::walker::walk` meets its contract. Assumes nothing.
abbrev pub invariant-loop-i : goal.invariant-loop-i
invariant-loop-i l =
    (l.at ≤ length (words_in l.words))
    × (l.faces ≤ l.at)
    × (walked_from l.faces (definitions (l.cells - l.i) (drop l.at (words_in l.words))) ≡ walked (definitions l.cells (words_in l.words)))

abbrev pub decreases-loop-i : goal.decreases-loop-i
decreases-loop-i l = l.cells - l.i
