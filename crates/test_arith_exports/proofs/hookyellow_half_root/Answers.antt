use mathlib.Core.Path.{refl}
use native.Mathlib.Nat.{not-le_of_lt}
use Rattle.test_arith_exports.proofs.hookyellow_half_root.Goals as goal

pub returns-then-d-ge18014398509481984 : goal.returns-then-d-ge18014398509481984
returns-then-d-ge18014398509481984 c = ((λ h. absurd (not-le_of_lt h c.if-d-ge18014398509481984.true)), (λ h. refl))

pub returns : goal.returns
returns c = ((λ h. c.half_root.ensures), (λ h. absurd (not-le_of_lt c.if-d-ge18014398509481984.false h)))
