use mathlib.Core.Path.{ap, ◌∙◌}
use Rattle.job_requests.specs.Encode.{bytes_of}
use Rattle.job_encoding.proofs.Laws.{integrals-stored}
use Rattle.job_encoding.proofs.integrals.Goals as goal

pub returns : goal.returns
returns c = c.encoded.ensures ∙ ap bytes_of (integrals-stored _ c.put_plane.ensures)
