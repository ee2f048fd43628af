use Rattle.std.proofs.Common.{refl}
use lib.Ieee.{of_bits}
use Rattle.lines_polygon.specs.Extent.{unlimited}
use Rattle.lines_polygon.proofs.extent.unlimited.Goals as goal

pub returns : goal.returns
unfolding of_bits unlimited
returns c = refl
