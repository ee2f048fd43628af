use native.Mathlib.Omega.{arith}
use mathlib.Core.Path.{sym}
use borrow.Author.Tests.{lt-ltb, le-ltb}
use Rattle.job_requests.specs.Requests.{rake, refuse_if}
use Rattle.job_requests.proofs.rake.Goals as goal

pub returns-then-count-lt2 : goal.returns-then-count-lt2
unfolding rake refuse_if
returns-then-count-lt2 c = rw (sym c.number-count.ensures, lt-ltb _ _ c.if-count-lt2.true)

pub returns-then-count-gt64 : goal.returns-then-count-gt64
unfolding rake refuse_if
returns-then-count-gt64 c = rw (sym c.number-count.ensures, le-ltb _ _ c.if-count-lt2.false, lt-ltb 64 c.number-count.result (omega arith))

pub returns : goal.returns
unfolding rake refuse_if
returns c = rw (sym c.number-count.ensures, le-ltb _ _ c.if-count-lt2.false, le-ltb 64 c.number-count.result (omega arith)) c.rake_of.ensures
