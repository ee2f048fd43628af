use Rattle.listing.proofs.TextLaws.{done-put}
use Rattle.listing.proofs.put_done.Goals as goal

-- `listing::put_done` meets its contract. Assumes nothing.
pub returns : goal.returns
returns c = done-put _ _ _ _ c.put_answers-to.ensures c.put_all-to.ensures c.put_marks-to.ensures c.put.ensures
