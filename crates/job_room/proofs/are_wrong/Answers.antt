use borrow.Author.Tests.{ne_eqb}
use Rattle.job_room.specs.Room.{requests_wrong}
use Rattle.job_room.proofs.are_wrong.Goals as goal

pub returns-then-requests-ne0 : goal.returns-then-requests-ne0
unfolding requests_wrong
returns-then-requests-ne0 c = rw (ne_eqb _ _ c.if-requests-ne0.true)

pub returns-else-requests-ne0 : goal.returns-else-requests-ne0
unfolding requests_wrong
returns-else-requests-ne0 c = rw c.if-requests-ne0.false
