use mathlib.Core.Path.{ap, ◌∙◌}
use Rattle.job_requests.specs.Encode.{bytes_of}
use Rattle.job_encoding.proofs.Laws.{section-stored}
use Rattle.job_encoding.proofs.section.Goals as goal

pub returns : goal.returns
returns c = c.encoded.ensures ∙ ap bytes_of (section-stored _ c.put_plane.ensures)
