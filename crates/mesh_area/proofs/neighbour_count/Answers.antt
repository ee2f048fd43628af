use mathlib.Core.Path.{sym, ap, ◌∙◌}
use lib.ListN.{length}
use Rattle.mesh_area.specs.Tables.{Cell}
use Rattle.mesh_area.proofs.LayoutLaws.{cell-in, cell-out, length-list_at}
use Rattle.mesh_area.specs.Layout.{cell_in}
use borrow.Author.Rules.{rules}
use Rattle.mesh_area.proofs.neighbour_count.Goals as goal

pub returns-then-i-s : goal.returns-then-i-s
unfolding cell_in
returns-then-i-s c = (λ floats. c.cell_word.ensures.0 ∙ sym (length-list_at _ _ _) ∙ sym (ap (λ (f : Cell). length f.neighbours) (cell-in _ _ floats _ c.if-i-s.true)), c.cell_word.ensures.1)

pub returns-else-i-s : goal.returns-else-i-s
returns-else-i-s c = (λ floats. sym (ap (λ (f : Cell). length f.neighbours) (cell-out _ _ floats _ c.if-i-s.false)), search rules)
