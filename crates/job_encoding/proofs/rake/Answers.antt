use mathlib.Core.Path.{ap, ◌∙◌}
use Rattle.job_requests.specs.Encode.{bytes_of}
use Rattle.job_encoding.proofs.Laws.{rake-stored}
use Rattle.job_encoding.proofs.rake.Goals as goal

pub returns : goal.returns
returns c = c.encoded.ensures ∙ ap bytes_of (rake-stored _ _ _ c.code_by.ensures c.put_vec.ensures c.put_vec-2.ensures c.put_line.ensures)
