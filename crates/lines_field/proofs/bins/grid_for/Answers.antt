use mathlib.Core.Path.{sym, ◌∙◌}
use Rattle.lines_field.proofs.GridLaws.{grid-flat, grid-wide, grid-high, grid-made}
use Rattle.lines_field.proofs.bins.grid_for.Goals as goal

pub returns-then-are_flat : goal.returns-then-are_flat
returns-then-are_flat c = grid-flat _ _ (sym c.are_flat.ensures ∙ c.if-are_flat.true)

pub returns-then-n-gt65536 : goal.returns-then-n-gt65536
returns-then-n-gt65536 c = grid-wide _ _ (sym c.are_flat.ensures ∙ c.if-are_flat.false) c.if-n-gt65536.true

pub returns-then-n-gt65536-2 : goal.returns-then-n-gt65536-2
returns-then-n-gt65536-2 c = grid-high _ _ (sym c.are_flat.ensures ∙ c.if-are_flat.false) c.if-n-gt65536.false c.if-n-gt65536-2.true

pub returns : goal.returns
returns c = grid-made _ _ (sym c.are_flat.ensures ∙ c.if-are_flat.false) c.if-n-gt65536.false c.if-n-gt65536-2.false c.requires.0 c.requires.1
