use Rattle.std.proofs.Common.{sym, ap, ◌∙◌}
use lib.Ieee.{binary64, to_bits}
use Rattle.arith.proofs.Floats.{nan-only}
use Rattle.arith.proofs.bytes.bits_of.Goals as goal

pub returns-then-is_nan : goal.returns-then-is_nan
unfolding to_bits
returns-then-is_nan c = ap (to_bits binary64) (sym (nan-only c.args.x (sym c.is_nan.ensures.value ∙ c.if-is_nan.true)))
