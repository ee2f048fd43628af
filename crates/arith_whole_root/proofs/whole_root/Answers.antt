use mathlib.Core.Path.{sym}
use Prim.Native.Nat.{◌+◌, ◌*◌, ◌^◌}
use native.Mathlib.Nat.{zero-add}
use native.Mathlib.Omega.{arith}
use mir.Val.{bool_byte}
use Rattle.arith_whole_root.proofs.Steps.{Turn, place, turn, no_more}
use Rattle.arith_whole_root.proofs.Takes.{takes}
use Rattle.arith_whole_root.proofs.whole_root.Goals as goal

-- what a turn makes of its digit
digit : (c : goal.In-loop-k) → let s = c.loop-k in Turn (c.args.d * 2 ^ 54) s.q s.y s.k (bool_byte (takes (2 * s.q + place s.k) (2 * s.y)))
digit c = let s = c.loop-k in turn _ s.q s.y s.k (omega arith) s.invariant

pub loop-k-init : goal.loop-k-init
loop-k-init c = record { few = omega arith; room = omega arith; rest = omega arith; square = sym (zero-add _) }

pub overflow_add-t : goal.overflow_add-t
overflow_add-t c = (digit c).step_fits

pub overflow_mul-q : goal.overflow_mul-q
overflow_mul-q c = (digit c).place-fits

pub overflow_add-q : goal.overflow_add-q
overflow_add-q c = (digit c).digits-fit

pub overflow_mul-y : goal.overflow_mul-y
overflow_mul-y c = (digit c).less-fits

pub overflow_sub-y : goal.overflow_sub-y
overflow_sub-y c = (digit c).less-le

pub loop-k-preserved : goal.loop-k-preserved
loop-k-preserved c = (digit c).goes_on

pub returns : goal.returns
returns c = let s = c.loop-k in no_more _ s.q s.y s.k (omega arith) s.invariant
