use Rattle.lines.proofs.JobLaws.{nowhere-not, nowhere-so}
use Rattle.lines.proofs.integrate.is_nowhere.Goals as goal

pub returns-in-Some : goal.returns-in-Some
returns-in-Some c = λ case. nowhere-not _ _ _ (c.locate-found.ensures.by_index_2 case) _ c.in-Some.is

pub returns-in-None : goal.returns-in-None
returns-in-None c = λ case. nowhere-so _ _ _ (c.locate-found.ensures.by_index_2 case) c.in-None.is
