use Prim.Native.Nat.{◌+◌, ◌≤◌}
use lib.ListN.{length, take, drop}
use mathlib.Core.Path.{◌≡◌}
use mathlib.Core.List.{◌++◌}
use Rattle.arith.specs.Records.{part}
use Rattle.case_file.specs.Trailer.{words_in}
use Rattle.case_faces.proofs.copy_list.Given as goal

-- `case_faces::copy_list` meets its contract. Assumes nothing.
abbrev pub invariant-loop-j : goal.invariant-loop-j
invariant-loop-j l =
    (l.count ≤ 8)
    × (length l.initial.out ≡ 8)
    × (length l.out ≡ 8)
    × (l.c.at + 1 + l.count ≤ length (words_in l.words))
    × (l.out ≡ take l.j (part (words_in l.words) (l.c.at + 1) l.count) ++ drop l.j l.initial.out)
