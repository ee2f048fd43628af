use borrow.Author.Tests.{ne_eqb}
use Rattle.job_requests.specs.Requests.{over_field}
use Rattle.job_requests.proofs.over_field.Goals as goal

pub returns-in-1 : goal.returns-in-1
unfolding over_field
returns-in-1 c = rw (c.in-1.is, c.point.ensures)

pub returns-in-2 : goal.returns-in-2
unfolding over_field
returns-in-2 c = rw (c.in-2.is, c.point-in-2.ensures)

pub returns-in-3 : goal.returns-in-3
unfolding over_field
returns-in-3 c = rw (c.in-3.is, c.streamline.ensures)

pub returns-in_default : goal.returns-in_default
unfolding over_field
returns-in_default c = let no = c.in_default.in_default-own.rest in rw (ne_eqb _ _ no.0.0.1, ne_eqb _ _ no.0.1, ne_eqb _ _ no.1) c.rake.ensures
