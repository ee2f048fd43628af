use Rattle.std.proofs.Common.{refl}
use lib.Ieee.{of_bits}
use Rattle.lines_field.specs.Bounds.{boundless}
use Rattle.lines_field.proofs.bounds.boundless.Goals as goal

pub returns : goal.returns
unfolding of_bits boundless
returns c = refl
