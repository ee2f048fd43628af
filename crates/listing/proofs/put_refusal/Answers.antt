use Rattle.listing.proofs.TextLaws.{refused-put}
use Rattle.listing.proofs.put_refusal.Goals as goal

-- `listing::put_refusal` meets its contract. Assumes nothing.
pub returns : goal.returns
returns c = refused-put _ _ c.put_all-to.ensures c.put_decimal-to.ensures c.put.ensures
