use mathlib.Core.Path.{ap, ◌∙◌}
use Rattle.job_requests.specs.Encode.{bytes_of}
use Rattle.job_encoding.proofs.Laws.{locate-stored}
use Rattle.job_encoding.proofs.locate.Goals as goal

pub returns : goal.returns
returns c = c.encoded.ensures ∙ ap bytes_of (locate-stored _ _ c.code_by.ensures c.put_vec.ensures)
