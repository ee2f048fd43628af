use lib.ListN.{drop}
use Rattle.listing.proofs.TextLaws.{Left}
use Rattle.listing.proofs.put_all.Given as goal

-- `listing::put_all` meets its contract. The loop's invariant: what is left to write. Assumes nothing.
abbrev pub invariant-loop-b : goal.invariant-loop-b
invariant-loop-b l = Left l.initial.text l.at l.bytes l.text l.to (drop l.b-index l.bytes)
