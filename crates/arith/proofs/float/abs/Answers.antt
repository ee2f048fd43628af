use Rattle.std.proofs.Common.{◌∙◌}
use Rattle.arith.proofs.Floats.{abs-is}
use Rattle.arith.proofs.float.abs.Goals as goal

pub returns : goal.returns
returns c = c.abs.ensures.value ∙ abs-is c.args.x
