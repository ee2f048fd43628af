use mathlib.Core.Path.{ap, ◌∙◌}
use Rattle.job_requests.specs.Encode.{bytes_of}
use Rattle.job_encoding.proofs.Laws.{one-line-stored}
use Rattle.job_encoding.proofs.one_line.Goals as goal

pub returns : goal.returns
returns c = c.encoded.ensures ∙ ap bytes_of (one-line-stored _ _ _ c.put_vec.ensures c.put_line.ensures)
