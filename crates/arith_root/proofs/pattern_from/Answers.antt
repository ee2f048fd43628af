use mathlib.Core.Path.{sym, ap, subst, ◌∙◌}
use native.Mathlib.Omega.{arith}
use lib.Dec.{T}
use lib.Ieee.{binary64, of_bits}
use lib.Ieee.Bits.{of_bits-to_bits}
use Rattle.arith_root.proofs.Cases.{above_no_nan}
use Rattle.arith_root.proofs.pattern_from.Goals as goal

pub float_to_bits-t : goal.float_to_bits-t
unfolding of_bits
float_to_bits-t c = above_no_nan c.args.s c.if-s.true

pub returns-then-t-o : goal.returns-then-t-o
returns-then-t-o c p =
    sym (of_bits-to_bits binary64 c.args.s (subst T (sym c.well_formed.0.1) tt)) ∙ ap (of_bits binary64) (omega arith)

pub returns-else-t-o : goal.returns-else-t-o
returns-else-t-o c p = absurd (omega arith)

pub returns-else-s : goal.returns-else-s
returns-else-s c p = absurd (omega arith)
