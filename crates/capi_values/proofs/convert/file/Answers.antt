use Rattle.capi_values.specs.Convert.{file_told}
use Rattle.capi_values.proofs.convert.file.Goals as goal

pub returns-in-Ok : goal.returns-in-Ok
unfolding file_told
returns-in-Ok c = rw c.in-Ok.is

pub returns-in-Err : goal.returns-in-Err
unfolding file_told
returns-in-Err c = rw (c.in-Err.is, c.number.ensures)
