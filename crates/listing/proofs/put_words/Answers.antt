use Rattle.listing.proofs.TextLaws.{all_left, words-turn, words-over, over}
use Rattle.listing.proofs.put_words.Goals as goal

pub loop-word-init : goal.loop-word-init
loop-word-init c = all_left _ _ _

pub loop-word-preserved : goal.loop-word-preserved
loop-word-preserved c =
    let in-loop = c.before in
    words-turn _ _ in-loop.loop-word-test.true in-loop.loop-word.invariant c.put-to.ensures c.put_hex-to.ensures

pub returns : goal.returns
returns c = over _ (words-over _ _ c.loop-word-test.false) c.loop-word.invariant
