use lib.ListN.{length}
use Rattle.std.proofs.lemmas.Result.{err_from_is_err_and}
use Rattle.job_promise.proofs.JobLaws.{run-asks}
use Rattle.job_promise.proofs.PromiseLaws.{refused-promise, done-promise}
use Rattle.job_promise.specs.Job.{number_of}
use Rattle.job.proofs.job.Goals as goal

pub returns-in_err-place : goal.returns-in_err-place
unfolding number_of
returns-in_err-place c =
    let a = c.args in
    let q = refused-promise a.case.now a.requests.now (length a.words.now) (length a.floats.now) a.answers.now a.marks.now c.prepare.ensures c.in_err-place.was in
    let p = err_from_is_err_and c.from_residual.result c.from_residual.ensures.1 in
    rw (p.1, p.2) (record { promise = q.0; value = q.1 })

pub run-requires : goal.run-requires
run-requires c =
    let a = c.args in
    let p = run-asks a.case.now a.requests.now (length a.words.now) (length a.floats.now) a.answers.now a.marks.now c.prepare.ensures c.in_ok-place.was in
    record { room_stands = p.0; requests_in_bounds = p.1 }

pub returns : goal.returns
unfolding number_of
returns c =
    let a = c.args in
    let q = done-promise a.case.now a.requests.now (length a.words.now) (length a.floats.now) a.answers.now a.marks.now c.prepare.ensures c.in_ok-place.was c.run.ensures in
    record { promise = q.0; value = q.1 }
