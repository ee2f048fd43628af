use mathlib.Core.Path.{ap, ◌∙◌}
use Rattle.job_requests.specs.Encode.{bytes_of}
use Rattle.job_encoding.proofs.Laws.{statistics-stored}
use Rattle.job_encoding.proofs.statistics.Goals as goal

pub returns : goal.returns
returns c = c.encoded.ensures ∙ ap bytes_of (statistics-stored _ _ c.put_plane.ensures)
