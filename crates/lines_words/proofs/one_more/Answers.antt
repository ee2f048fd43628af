use mathlib.Core.Path.{refl}
use Rattle.lines_words.specs.Pen.{one_more}
use Rattle.lines_words.proofs.one_more.Goals as goal

pub returns : goal.returns
unfolding one_more
returns c = refl
