use native.Mathlib.Nat.{mod-lt, mod-eq_of_lt}
use mathlib.Core.Path.{refl, sym}
use Rattle.lines_locate.proofs.bin_at_place.Goals as goal

pub returns-then-k-n : goal.returns-then-k-n
returns-then-k-n c = (sym (mod-eq_of_lt c.if-k-n.true), c.if-k-n.true)

pub returns-else-k-n : goal.returns-else-k-n
returns-else-k-n c = (refl, mod-lt _ c.requires)
