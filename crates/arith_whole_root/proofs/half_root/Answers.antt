use mathlib.Core.Path.{refl, sym, subst}
use Prim.Native.Nat.{◌*◌, ◌^◌}
use native.Mathlib.Omega.{arith}
use lib.Dec.{T}
use Rattle.arith_whole_root.proofs.Whole.{less}
use Rattle.arith_whole_root.proofs.half_root.Goals as goal

pub returns-then-is_half_root : goal.returns-then-is_half_root
returns-then-is_half_root c = c.is_half_root.ensures (subst T (sym c.if-is_half_root.true) tt)

pub returns-then-is_half_root-2 : goal.returns-then-is_half_root-2
returns-then-is_half_root-2 c = c.is_half_root-then-m-lt9007199254740992.ensures (subst T (sym c.if-is_half_root-2.true) tt)

pub overflow_add-result-2 : goal.overflow_add-result-2
overflow_add-result-2 c = let d = c.args.d in omega (arith, less (d * 2 ^ 54) c.whole_root.result (2 ^ 54) c.whole_root.ensures (omega arith))

pub returns : goal.returns
returns c = record { q = c.whole_root.result; whole = c.whole_root.ensures; half = refl }
