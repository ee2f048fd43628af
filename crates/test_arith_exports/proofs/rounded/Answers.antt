use mathlib.Core.Path.{◌∙◌}
use mir.Syntax.{w64}
use mir.ValLaws.{to_z-of_z}
use Rattle.test_arith_exports.specs.Millimetres.{rounding_of}
use Rattle.test_arith_exports.proofs.rounded.Goals as goal

pub returns-then-even : goal.returns-then-even
unfolding rounding_of
returns-then-even c = rw c.if-even.true (to_z-of_z w64 c.millimetres.result (record { sfits = c.millimetres.type_inv }) ∙ c.millimetres.ensures.0)

pub returns : goal.returns
unfolding rounding_of
returns c = rw c.if-even.false (to_z-of_z w64 c.millimetres-2.result (record { sfits = c.millimetres-2.type_inv }) ∙ c.millimetres-2.ensures.0)
