use mathlib.Core.Path.{sym}
use borrow.Author.Tests.{lt-ltb, le-ltb, ne_eqb}
use Rattle.job_requests.specs.Requests.{over_plane, statistics, refuse_if}
use Rattle.job_requests.proofs.over_plane.Goals as goal

pub returns-in-5 : goal.returns-in-5
unfolding over_plane
returns-in-5 c = rw c.in-5.is

pub returns-then-field-gt5 : goal.returns-then-field-gt5
unfolding over_plane statistics refuse_if
returns-then-field-gt5 c = rw (c.in-6.is, sym c.number-field.ensures, lt-ltb _ _ c.if-field-gt5.true)

pub returns-else-field-gt5 : goal.returns-else-field-gt5
unfolding over_plane statistics refuse_if
returns-else-field-gt5 c = rw (c.in-6.is, sym c.number-field.ensures, le-ltb _ _ c.if-field-gt5.false)

pub returns-in-7 : goal.returns-in-7
unfolding over_plane
returns-in-7 c = rw c.in-7.is

pub returns-in_default : goal.returns-in_default
unfolding over_plane
returns-in_default c = rw (ne_eqb _ _ c.in_default.in_default-own.rest.0.0.1, ne_eqb _ _ c.in_default.in_default-own.rest.0.1, ne_eqb _ _ c.in_default.in_default-own.rest.1, c.point.ensures)
