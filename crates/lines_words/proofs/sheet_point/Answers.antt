use mir.Syntax.{w64}
use mir.ValLaws.{to_z-of_z}
use Rattle.lines_words.specs.Sheet.{sheet_point}
use Rattle.lines_words.proofs.sheet_point.Goals as goal

pub returns : goal.returns
unfolding sheet_point
returns c = rw (to_z-of_z w64 c.millimetres.result (record { sfits = c.millimetres.type_inv }), to_z-of_z w64 c.millimetres-2.result (record { sfits = c.millimetres-2.type_inv }), c.millimetres.ensures.0, c.millimetres-2.ensures.0)
