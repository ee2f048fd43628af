use lib.ListN.{drop}
use Rattle.listing.specs.Listing.{marks_from, marks_text}
use Rattle.listing.proofs.TextLaws.{Left}
use Rattle.listing.proofs.put_marks.Given as goal

-- `listing::put_marks` meets its contract. The loop's invariant: what is left to write. Assumes nothing.
abbrev pub invariant-loop-i : goal.invariant-loop-i
invariant-loop-i l = Left l.initial.text l.at (marks_text l.marks) l.text l.to (marks_from l.i (drop l.i l.marks))
