use mathlib.Core.Path.{refl}
use Rattle.lines_polygon.specs.Contains.{position_word}
use Rattle.job_serve.proofs.position_word.Goals as goal

pub returns-in-Outside : goal.returns-in-Outside
unfolding position_word
returns-in-Outside c = rw c.in-Outside.is refl

pub returns-in-Edge : goal.returns-in-Edge
unfolding position_word
returns-in-Edge c = rw c.in-Edge.is refl

pub returns-in-Inside : goal.returns-in-Inside
unfolding position_word
returns-in-Inside c = rw c.in-Inside.is refl
