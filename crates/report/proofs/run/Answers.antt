use mathlib.Core.Path.{refl}
use Rattle.job_promise.specs.Job.{number_of}
use Rattle.report.proofs.Laws.{case-long, requests-long, both-short}
use Rattle.report.proofs.run.Goals as goal

pub returns-then-is_too_long : goal.returns-then-is_too_long
unfolding number_of
returns-then-is_too_long c = case-long _ _ _ _ _ _ c.is_too_long.ensures c.if-is_too_long.true

pub returns-then-is_too_long-2 : goal.returns-then-is_too_long-2
unfolding number_of
returns-then-is_too_long-2 c =
    requests-long _ _ _ _ _ _ c.is_too_long.ensures c.if-is_too_long.false c.is_too_long-2.ensures c.if-is_too_long-2.true

pub returns : goal.returns
returns c =
    both-short _ _ _ _ _ _ c.is_too_long.ensures c.if-is_too_long.false c.is_too_long-2.ensures c.if-is_too_long-2.false c.job.ensures.promise refl
