use mathlib.Core.Path.{sym, subst}
use lib.Dec.{T}
use lib.Ieee.{binary64, fits, of_bits}
use Rattle.arith_root.proofs.Cases.{above_no_nan, above-to}
use Rattle.arith_root.proofs.estimate.Goals.{Start}
use Rattle.arith_root.proofs.estimate.Goals as goal

-- what owning an `f64` tells: the format holds it
held : (c : Start) → T (fits binary64 c.args.x)
held c = subst T (sym c.well_formed.0.1) tt

pub float_to_bits-x : goal.float_to_bits-x
unfolding of_bits
float_to_bits-x c = above_no_nan c.args.x c.if-x.true

pub inverse_root-a-requires : goal.inverse_root-a-requires
unfolding of_bits
inverse_root-a-requires c = above-to c.args.x (held c.before) c.if-x.true
