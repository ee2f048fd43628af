use mathlib.Core.Path.{ap, ◌∙◌}
use Rattle.job_requests.specs.Encode.{bytes_of}
use Rattle.job_encoding.proofs.Laws.{probe-stored}
use Rattle.job_encoding.proofs.probe.Goals as goal

pub returns : goal.returns
returns c = c.encoded.ensures ∙ ap bytes_of (probe-stored _ _ c.put_plane.ensures c.put_vec.ensures)
