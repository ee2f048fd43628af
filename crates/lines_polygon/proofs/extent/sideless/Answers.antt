use Rattle.std.proofs.Common.{refl}
use lib.Ieee.{of_bits}
use Rattle.lines_polygon.specs.Extent.{sideless}
use Rattle.lines_polygon.proofs.extent.sideless.Goals as goal

pub returns : goal.returns
unfolding of_bits sideless
returns c = refl
