use Rattle.job_promise.proofs.ListLaws.{run_is}
use Rattle.job.proofs.run.Goals as goal

pub returns : goal.returns
returns c =
    run_is _ _ _ _ _ _ _ _ _ _ _ c.cells_of.ensures c.clear_marks.ensures c.serve_all-end.ensures c.clear_from.ensures
