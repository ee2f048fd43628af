use mathlib.Core.Path.{◌∙◌}
use mir.Syntax.{w64}
use mir.ValLaws.{to_z-of_z}
use Rattle.lines_millimetres.specs.Nearest.{under2^53}
use Rattle.test_arith_exports.specs.Millimetres.{sheet_number}
use Rattle.test_arith_exports.proofs.hookyellow_millimetres.Goals as goal

pub rounded-requires : goal.rounded-requires
unfolding under2^53
rounded-requires c = rw (← c.abs.ensures) c.if-abs.true

pub returns-then-abs : goal.returns-then-abs
unfolding sheet_number under2^53
returns-then-abs c =
    rw (← c.abs.ensures, c.if-abs.true)
    (to_z-of_z w64 c.rounded.result (record { sfits = c.rounded.type_inv }) ∙ c.rounded.ensures)

pub returns : goal.returns
unfolding sheet_number under2^53
returns c = rw (← c.abs.ensures, c.if-abs.false)
