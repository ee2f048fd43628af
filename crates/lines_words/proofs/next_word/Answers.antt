use Rattle.lines_words.proofs.PenLaws.{points-next, sheet-next}
use mathlib.Core.Path.{refl}
use Rattle.lines_words.proofs.next_word.Goals as goal

pub returns-in-Points : goal.returns-in-Points
returns-in-Points c = points-next _ c.requires c.in-Points.is refl

pub returns-in-Sheet : goal.returns-in-Sheet
returns-in-Sheet c = sheet-next _ c.requires _ c.in-Sheet.is refl
