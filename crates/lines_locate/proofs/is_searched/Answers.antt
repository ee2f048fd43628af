use Rattle.lines_locate.specs.Locate.{is_searched}
use Rattle.lines_locate.proofs.is_searched.Goals as goal

pub returns-in-Bins : goal.returns-in-Bins
unfolding is_searched
returns-in-Bins c = λ floats. rw c.in-Bins.is (c.is_listed.ensures floats)

pub returns-in-All : goal.returns-in-All
unfolding is_searched
returns-in-All c = λ floats. rw c.in-All.is
