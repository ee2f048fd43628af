use native.Mathlib.Omega.{arith}
use mathlib.Core.Path.{refl}
use Rattle.listing.proofs.TextLaws.{unwritten}
use Rattle.listing.proofs.put.Goals as goal

-- `listing::put` meets its contract. Assumes nothing.
pub returns-then-at-text : goal.returns-then-at-text
returns-then-at-text c = (refl, omega arith)

pub returns-else-at-text : goal.returns-else-at-text
returns-else-at-text c = (unwritten _ _ _ c.if-at-text.false, omega arith)
