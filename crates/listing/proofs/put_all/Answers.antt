use Rattle.listing.proofs.TextLaws.{all_left, bytes-turn, none_left, over}
use Rattle.listing.proofs.put_all.Goals as goal

pub loop-b-init : goal.loop-b-init
loop-b-init c = all_left _ _ _

pub loop-b-preserved : goal.loop-b-preserved
loop-b-preserved c =
    let in-loop = c.before in
    bytes-turn _ _ in-loop.loop-b-test.true in-loop.loop-b.invariant c.put-to.ensures

pub returns : goal.returns
returns c = over _ (none_left _ _ c.loop-b-test.false) c.loop-b.invariant
