use mathlib.Core.Path.{sym, ◌∙◌}
use Rattle.planes_crossings.proofs.HeldLaws.{rest-same}
use Rattle.planes_crossings.proofs.PlaneLaws.{meeting-point, meeting-none}
use Rattle.planes_crossings.proofs.SideLaws.{listed-as}
use borrow.Author.Rules.{rules}
use Rattle.planes_crossings.proofs.crossings.add_crossing.Goals as goal

pub returns-in-Some : goal.returns-in-Some
returns-in-Some c = listed-as (meeting-point _ _ _ _ _ (sym c.crossing-m.ensures ∙ c.in-Some.is)) c.add_new.ensures

pub returns-in-None : goal.returns-in-None
returns-in-None c = record { list = meeting-none _ _ _ _ (sym c.crossing-m.ensures ∙ c.in-None.is); more = search rules; few = search rules; rest = rest-same }
