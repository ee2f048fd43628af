use mathlib.Core.Path.{sym, ◌∙◌}
use Rattle.job_requests.proofs.Laws.{number_at}
use Rattle.job_requests.proofs.number.Goals as goal

pub returns : goal.returns
returns c = c.u64_at.ensures ∙ sym (number_at _ _ _ c.requires.1)
