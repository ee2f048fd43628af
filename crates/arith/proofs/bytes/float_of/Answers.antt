use Rattle.std.proofs.Common.{Bool, not, T, sym, subst}
use lib.Ieee.{of_bits, div}
use Rattle.arith.proofs.Floats.{above-nan, below-number}
use Rattle.arith.proofs.bytes.float_of.Goals as goal

pub returns-then-n-gt9218868437227405312 : goal.returns-then-n-gt9218868437227405312
unfolding of_bits div
returns-then-n-gt9218868437227405312 c = sym (above-nan c.args.n c.if-n-gt9218868437227405312.true)

pub float_from_bits-result : goal.float_from_bits-result
float_from_bits-result c = subst (λ (b : Bool). T (not b)) (sym (below-number c.args.n c.if-n-gt9218868437227405312.false)) tt
