use Rattle.std.proofs.Common.{◌≡◌, ◌-◌}
use Rattle.test_stored.specs.Pieces.{repeated}
use Rattle.test_stored.proofs.repeat.Given as goal

-- `test_stored::repeat`: what is left to repeat, from the room as it is, gives the whole. Assumes nothing.
abbrev pub invariant-loop-k : goal.invariant-loop-k
invariant-loop-k l = repeated (l.end - l.k) l.n l.k l.room ≡ repeated (l.end - l.from) l.n l.from l.initial.room
