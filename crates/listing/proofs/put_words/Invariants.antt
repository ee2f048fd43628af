use lib.ListN.{drop}
use Rattle.listing.specs.Listing.{words_text}
use Rattle.listing.proofs.TextLaws.{Left}
use Rattle.listing.proofs.put_words.Given as goal

-- `listing::put_words` meets its contract. The loop's invariant: what is left to write. Assumes nothing.
abbrev pub invariant-loop-word : goal.invariant-loop-word
invariant-loop-word l = Left l.initial.text l.at (words_text l.words) l.text l.to (words_text (drop l.word-index l.words))
