use Rattle.std.proofs.Common.{sym, ◌∙◌}
use Rattle.arith.proofs.Floats.{signed-is, signed-nan}
use Rattle.arith.proofs.float.is_sign_negative.Goals as goal

pub returns-then-not-is_nan : goal.returns-then-not-is_nan
returns-then-not-is_nan c = c.is_sign_negative.ensures ∙ signed-is c.args.x

pub returns-else-not-is_nan : goal.returns-else-not-is_nan
returns-else-not-is_nan c = rw c.if-not-is_nan.false (signed-nan c.args.x (sym c.is_nan.ensures.value ∙ c.if-not-is_nan.false))
