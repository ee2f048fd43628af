use Rattle.arith_bytes.proofs.StoreLaws.{Listing}
use Rattle.arith_bytes.proofs.put_u64s.Given as goal

-- `arith_bytes::put_u64s` meets its contract. Assumes nothing.
abbrev pub invariant-loop-i : goal.invariant-loop-i
invariant-loop-i l = Listing 8 l.initial.out l.at l.numbers l.out l.i
