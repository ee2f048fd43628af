use Prim.Native.Nat.{◌-◌, ◌≤◌}
use lib.ListN.{length, drop}
use Rattle.listing.specs.Listing.{answers_text}
use Rattle.listing.proofs.TextLaws.{Left}
use Rattle.listing.proofs.put_answers.Given as goal

-- `listing::put_answers` meets its contract. The loop's invariant: what is left to write. Assumes nothing.
abbrev pub invariant-loop : goal.invariant-loop
invariant-loop l =
    (l.from ≤ length l.answers) × Left l.initial.text l.at (answers_text l.count l.answers) l.text l.to (answers_text (l.count - l.counter) (drop l.from l.answers))
