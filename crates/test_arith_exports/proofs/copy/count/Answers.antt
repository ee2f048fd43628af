use Prim.Native.Nat.{ℕ, min}
use mathlib.Core.Path.{◌≡◌, refl, ◌∙◌}
use mathlib.Core.Bool.{Bool, true, false, cond}
use lib.Dec.{ltb}
use borrow.Author.Tests.{ltb-true, ltb-false}
use native.Mathlib.Omega.{arith}
use Rattle.test_arith_exports.specs.Copy.{shorter}
use Rattle.test_arith_exports.proofs.copy.count.Goals as goal

min-is : (a b : ℕ) → min a b ≡ cond (ltb a b) a b
min-is a b = by (ltb a b) refl
  where
    by : (t : Bool) → ltb a b ≡ t → min a b ≡ cond t a b
    by true e = omega (arith, ltb-true a b e)
    by false e = omega (arith, ltb-false a b e)

pub returns : goal.returns
unfolding shorter
returns c = (c.min.ensures ∙ min-is _ _, omega arith, omega arith)
