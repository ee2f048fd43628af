use mathlib.Core.Path.{ap, ◌∙◌}
use Rattle.job_requests.specs.Encode.{bytes_of}
use Rattle.job_encoding.proofs.Laws.{velocity-stored}
use Rattle.job_encoding.proofs.velocity.Goals as goal

pub returns : goal.returns
returns c = c.encoded.ensures ∙ ap bytes_of (velocity-stored _ _ c.code_by.ensures c.put_vec.ensures)
