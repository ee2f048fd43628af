use Prim.Native.Nat.{◌*◌, ◌^◌}
use native.Mathlib.Omega.{arith}
use Rattle.arith_whole_root.proofs.Halves.{half}
use Rattle.arith_whole_root.proofs.is_half_root.Goals as goal

pub returns-then-m-eq0 : goal.returns-then-m-eq0
returns-then-m-eq0 c t = absurd t

pub returns-then-m-gt9007199254740992 : goal.returns-then-m-gt9007199254740992
returns-then-m-gt9007199254740992 c t = absurd t

pub returns : goal.returns
returns c t =
    let a = c.args in
    half (a.d * 2 ^ 54) a.m _ (omega arith) (omega arith) (c.is_root_from.ensures t)
