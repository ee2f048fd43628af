use mathlib.Core.Path.{refl}
use Rattle.test_arith_exports.proofs.Laws.{too_long, other-second, other-places, fits}
use borrow.Author.Rules.{rules}
use Rattle.test_arith_exports.proofs.hookyellow_sort.Goals as goal

pub returns-then-n-gt192 : goal.returns-then-n-gt192
returns-then-n-gt192 c = record { value = too_long _ _ _ c.if-n-gt192.true; places_after = refl }

pub returns-then-dy-n : goal.returns-then-dy-n
returns-then-dy-n c = record { value = other-second _ _ _ c.if-n-gt192.false c.if-dy-n.true; places_after = refl }

pub returns-then-places-n : goal.returns-then-places-n
returns-then-places-n c = record { value = other-places _ _ _ c.if-n-gt192.false c.if-dy-n.false c.if-places-n.true; places_after = refl }

pub returns : goal.returns
returns c = search (fits, rules)
