use Prim.Native.Nat.{◌*◌, ◌^◌}
use Rattle.arith_whole_root.proofs.Steps.{Begun}
use Rattle.arith_whole_root.proofs.whole_root.Given as goal

abbrev pub invariant-loop-k : goal.invariant-loop-k
invariant-loop-k l = Begun (l.d * 2 ^ 54) l.q l.y l.k
