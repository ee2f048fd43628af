use Rattle.capi.proofs.Laws.{converted-told}
use Rattle.capi.proofs.files.hookyellow_convert.Goals as goal

pub returns : goal.returns
returns c =
    let told = converted-told _ _ _ _ _ c.convert.ensures c.file.ensures in
    record { value = told.0; convert_promise = told.1 }
