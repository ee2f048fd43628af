use Rattle.lines.proofs.HomeLaws.{home-first, home-there, home-none}
use Rattle.lines.proofs.line.home_of.Goals as goal

pub returns-then-t-ne2 : goal.returns-then-t-ne2
returns-then-t-ne2 c = home-first _ _ _ _ _ c.requires c.if-t-ne2.true

pub returns-in-Some : goal.returns-in-Some
returns-in-Some c = home-there _ _ _ _ _ _ (c.locate-found.ensures.by_index_2 _) _ _ c.in-Some.is c.zone.ensures

pub returns-in-None : goal.returns-in-None
returns-in-None c = home-none _ _ _ _ _ _ (c.locate-found.ensures.by_index_2 _) c.in-None.is
