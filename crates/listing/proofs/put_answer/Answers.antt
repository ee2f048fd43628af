use Rattle.listing.proofs.TextLaws.{answer-put}
use Rattle.listing.proofs.put_answer.Goals as goal

-- `listing::put_answer` meets its contract. Assumes nothing.
pub returns : goal.returns
returns c = answer-put _ _ _ _ c.put_decimal-to.ensures c.put-to.ensures c.put_decimal-to-2.ensures c.put_words-to.ensures c.put.ensures
