use mathlib.Core.Path.{refl}
use Rattle.lines_words.proofs.pen_at.Goals as goal

pub returns : goal.returns
returns c = refl
