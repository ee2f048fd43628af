use Prim.Native.Nat.{◌≤◌}
use lib.ListN.{length}
use Rattle.test_stored.specs.Pieces.{Text}
use Rattle.test_stored.proofs.assemble.Given as goal

-- `test_stored::assemble` meets its contract. Assumes nothing.
abbrev pub invariant-loop : goal.invariant-loop
invariant-loop l = (l.end ≤ length l.room) × Text l.initial.room l.end l.room
