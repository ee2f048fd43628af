use Rattle.arith_bytes.proofs.StoreLaws.{Listing}
use Rattle.arith_bytes.proofs.put_u32s.Given as goal

-- `arith_bytes::put_u32s` meets its contract. Assumes nothing.
abbrev pub invariant-loop-i : goal.invariant-loop-i
invariant-loop-i l = Listing 4 l.initial.out l.at l.numbers l.out l.i
