use Rattle.std.proofs.Common.{rules}
use Rattle.planes_sums.specs.Integrals.{no_integrals}
use Rattle.planes.proofs.codes.lacks_integrals.Goals as goal

pub returns-then-t : goal.returns-then-t
unfolding no_integrals
returns-then-t c = search rules

pub returns-else-t : goal.returns-else-t
unfolding no_integrals
returns-else-t c = search rules
