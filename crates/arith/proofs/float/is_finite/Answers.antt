use Rattle.std.proofs.Common.{◌∙◌}
use Rattle.arith.proofs.Floats.{finite-is}
use Rattle.arith.proofs.float.is_finite.Goals as goal

pub returns : goal.returns
returns c = c.is_finite.ensures.value ∙ finite-is c.args.x
