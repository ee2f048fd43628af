use mathlib.Core.Path.{sym}
use borrow.Author.Tests.{lt-ltb, le-ltb}
use Rattle.job_requests.specs.Requests.{rake_of, refuse_if}
use Rattle.job_requests.proofs.rake_of.Goals as goal

pub returns-then-s-gt65536 : goal.returns-then-s-gt65536
unfolding rake_of refuse_if
returns-then-s-gt65536 c = rw (sym c.settings-s.ensures, lt-ltb _ _ c.if-s-gt65536.true)

pub returns : goal.returns
unfolding rake_of refuse_if
returns c = rw (sym c.settings-s.ensures, le-ltb _ _ c.if-s-gt65536.false, c.point.ensures, c.point-2.ensures)
