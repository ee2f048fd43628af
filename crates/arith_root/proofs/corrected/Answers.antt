use mathlib.Core.Path.{sym, subst}
use native.Mathlib.Omega.{arith}
use mathlib.Core.Bool.{Bool, not}
use lib.Dec.{T}
use lib.Ieee.{binary64, fits, of_bits}
use Rattle.arith_root.proofs.Cases.{factor-no-nan, to-no-nan, no-nan-to}
use Rattle.arith_root.proofs.corrected.Goals.{Start}
use Rattle.arith_root.proofs.corrected.Goals as goal

-- what owning an `f64` tells: the format holds it
held : (c : Start) → T (fits binary64 c.args.s)
held c = subst T (sym c.well_formed.1.1.0.1) tt

pub float_to_bits-b : goal.float_to_bits-b
unfolding of_bits
float_to_bits-b c = subst (λ (t : Bool). T (not t)) (sym (factor-no-nan c.args.s c.args.y c.if-p.true)) tt

pub float_from_bits-h : goal.float_from_bits-h
unfolding of_bits
float_from_bits-h c =
    let a = c.args in
    no-nan-to _ (omega (arith, to-no-nan a.s (held c.before) (factor-no-nan a.s a.y c.if-p.true)))
