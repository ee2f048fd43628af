use Rattle.arith.proofs.Counts.{whole_in}
use Rattle.lines.specs.Rake.{seed_at}
use native.Mathlib.Omega.{arith}
use Rattle.lines.proofs.rakes.seed_at.Goals as goal

pub int_to_float-t : goal.int_to_float-t
int_to_float-t c = whole_in _ (omega arith)

pub int_to_float-t-2 : goal.int_to_float-t-2
int_to_float-t-2 c = whole_in _ (omega arith)

pub returns : goal.returns
unfolding seed_at
returns c = rw (c.add.ensures, c.scale.ensures, c.sub.ensures)
