use Rattle.job_room.specs.Ensures.{counts_in}
use Rattle.job.proofs.cells_of.Goals as goal

pub returns-in-Flat : goal.returns-in-Flat
unfolding counts_in
returns-in-Flat c = rw c.in-Flat.is

pub returns-in-Solid : goal.returns-in-Solid
unfolding counts_in
returns-in-Solid c = rw c.in-Solid.is
