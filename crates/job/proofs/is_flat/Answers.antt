use Rattle.job_room.specs.Ensures.{room_in}
use Rattle.job_promise.specs.List.{is_flat}
use Rattle.job.proofs.is_flat.Goals as goal

pub returns-in-Flat : goal.returns-in-Flat
unfolding room_in is_flat
returns-in-Flat c file words floats = rw c.in-Flat.is

pub returns-in_default : goal.returns-in_default
unfolding room_in is_flat
returns-in_default c file words floats = rw c.in_default.is
