use native.Mathlib.Omega.{arith}
use lib.Seq.{length-take-le}
use lib.ListN.{drop, length-drop}
use Prim.Native.Nat.{◌+◌, ◌-◌}
use Rattle.arith_bytes.proofs.StoreLaws.{storing-next, storing-ends}
use Rattle.arith_bytes.proofs.put_number.Goals as goal
use Rattle.arith_bytes.proofs.put_number.Goals.{In-loop-byte}

pub loop-byte-preserved : goal.loop-byte-preserved
loop-byte-preserved c =
    let l = c.loop-byte in
    let a = c.args in
    let n = length-take-le (a.at + a.size - a.at) (drop a.at a.out.now) (omega (arith, length-drop a.at a.out.now)) in
    storing-next l.byte-items a.size l.left l.byte-index _ l.invariant (omega arith) (omega arith)

pub returns : goal.returns
returns c =
    let l = c.loop-byte in
    let a = c.args in
    let n = length-take-le (a.at + a.size - a.at) (drop a.at a.out.now) (omega (arith, length-drop a.at a.out.now)) in
    storing-ends a.out.now l.byte-items a.at a.size a.w l.left l.byte-index l.invariant (omega arith) (omega arith)
