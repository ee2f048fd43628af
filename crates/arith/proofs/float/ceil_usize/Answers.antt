use Rattle.std.proofs.Common.{T, sym, subst, arith}
use lib.Ieee.{binary64, fits, of_bits}
use Rattle.arith.proofs.Counts.{whole_le, whole_in, ceil-up, ceil-kept, ceil-high}
use lib.Ieee.{Float}
use mathlib.Core.Path.{◌≡◌}
use mathlib.Core.Bool.{true}
use Rattle.arith.proofs.float.ceil_usize.Goals as goal
use Rattle.arith.proofs.float.ceil_usize.Goals.{else-x-via-then-x+else-whole-x, else-x-via-else-x}

held : (x : Float) → fits binary64 x ≡ true → T (fits binary64 x)
held x e = subst T (sym e) tt

pub int_to_float-whole : goal.int_to_float-whole
unfolding of_bits
int_to_float-whole c = whole_in _ (rw c.floor_usize-whole.ensures (whole_le _ c.if-x.true))

pub overflow_add-result : goal.overflow_add-result
unfolding of_bits
overflow_add-result c = let l = rw (← c.floor_usize-whole.ensures) at (whole_le _ c.if-x.true) in omega arith

pub returns-then-whole-x : goal.returns-then-whole-x
unfolding of_bits
returns-then-whole-x c = rw c.floor_usize-whole.ensures (ceil-up _ c.if-x.true (rw c.floor_usize-whole.ensures at c.if-whole-x.true))

pub returns-else-x : goal.returns-else-x
unfolding of_bits
returns-else-x c =
    rw c.floor_usize-whole.ensures
    (elim c.else-x.branch [
      | else-x-via-then-x+else-whole-x w ↦ ceil-kept _ w.if-x.true (rw c.floor_usize-whole.ensures at w.if-whole-x.false)
      | else-x-via-else-x w ↦ ceil-high _ (held c.args.x c.well_formed.0.1) w.if-x.false
    ])
