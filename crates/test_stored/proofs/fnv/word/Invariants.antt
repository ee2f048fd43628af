use Rattle.std.proofs.Common.{◌≡◌, drop}
use Rattle.arith.specs.Lists.{fold}
use Rattle.test_stored.specs.Fnv.{hash_byte}
use Rattle.test_stored.proofs.fnv.word.Given as goal

-- `test_stored::fnv::word`: the bytes that are left, from the hash so far on, give the hash of all. Assumes nothing.
abbrev pub invariant-loop-b : goal.invariant-loop-b
invariant-loop-b l = fold hash_byte l.hash (drop l.b-index l.b-items) ≡ fold hash_byte l.h l.b-items
