use Rattle.std.proofs.Common.{arith}
use Rattle.lines_field.specs.Bins.{are_flat}
use Rattle.lines_field.proofs.bins.are_flat.Goals as goal

pub returns : goal.returns
unfolding are_flat
returns c = grind arith
