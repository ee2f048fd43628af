use Prim.Native.Nat.{◌-◌, ◌≤◌}
use lib.ListN.{length, drop}
use mathlib.Core.Path.{◌≡◌}
use Rattle.case_definitions.specs.Definitions.{face_lists}
use Rattle.case_definitions.specs.Ensures.{skipped}
use Rattle.case_file.specs.Trailer.{words_in}
use Rattle.case_definitions.proofs.walker.skip_faces.Given as goal

-- `case_definitions::walker::skip_faces` meets its contract. Assumes nothing.
abbrev pub invariant-loop : goal.invariant-loop
invariant-loop l =
    (l.at ≤ length (words_in l.words))
    × (skipped (words_in l.words) (face_lists (l.n - l.counter) (drop l.at (words_in l.words))) ≡ skipped (words_in l.words) (face_lists l.n (drop l.first (words_in l.words))))
