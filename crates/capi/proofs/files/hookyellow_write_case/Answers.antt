use Rattle.capi.proofs.Laws.{written-told}
use Rattle.capi.proofs.files.hookyellow_write_case.Goals as goal

pub returns : goal.returns
returns c =
    let told = written-told _ _ _ _ (rw c.counts.ensures at c.write_case.ensures) c.file.ensures in
    record { value = told.0; write_promise = told.1 }
