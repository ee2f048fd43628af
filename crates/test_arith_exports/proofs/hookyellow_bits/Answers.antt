use mathlib.Core.Path.{◌∙◌, ap}
use Rattle.arith.specs.F64.{word}
use Rattle.test_arith_exports.proofs.hookyellow_bits.Goals as goal

pub returns : goal.returns
returns c = c.bits_of.ensures ∙ ap word c.float_of.ensures
