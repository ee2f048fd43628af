use mathlib.Core.Path.{refl}
use Rattle.job_serve.specs.Serve.{cell_word}
use Rattle.job_serve.proofs.cell_word.Goals as goal

pub returns-in-Some : goal.returns-in-Some
unfolding cell_word
returns-in-Some c = rw c.in-Some.is refl

pub returns-in-None : goal.returns-in-None
unfolding cell_word
returns-in-None c = rw c.in-None.is refl
