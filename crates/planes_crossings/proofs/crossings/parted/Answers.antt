use Rattle.std.proofs.Common.{rules}
use Rattle.planes_crossings.specs.Crossings.{parted}
use Rattle.planes_crossings.proofs.crossings.parted.Goals as goal

pub returns-then-rises : goal.returns-then-rises
unfolding parted
returns-then-rises c = search rules

pub returns-else-rises : goal.returns-else-rises
unfolding parted
returns-else-rises c = search rules
