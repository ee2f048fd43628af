use mathlib.Core.Path.{sym, ap, ◌∙◌}
use lib.ListN.{get_or}
use Rattle.mesh_area.specs.Tables.{Cell}
use Rattle.mesh_area.proofs.LayoutLaws.{cell-in, cell-out, list_at-in, list_at-out}
use Rattle.mesh_area.specs.Layout.{cell_in, mesh_words}
use borrow.Author.Rules.{rules}
use Rattle.mesh_area.proofs.neighbour.Goals as goal
use Rattle.mesh_area.proofs.neighbour.Goals.{else-i-s-via-then-i-s+else-k-cell_word, else-i-s-via-else-i-s}

pub returns-then-k-cell_word : goal.returns-then-k-cell_word
unfolding cell_in mesh_words
returns-then-k-cell_word c =
    let n = c.cell_word.ensures.0 in
    let k = c.args.k in (
      λ floats.
          rw (c.words_end.ensures, c.cell_word-first.ensures.0) at c.word_in.ensures.0 ∙ sym (list_at-in _ _ _ k (rw n at c.if-k-cell_word.true))
          ∙ sym (ap (λ (f : Cell). get_or f.neighbours k 0) (cell-in _ _ floats _ c.if-i-s.true)),
      c.word_in.ensures.1,
    )

pub returns-else-i-s : goal.returns-else-i-s
unfolding cell_in
returns-else-i-s c =
    elim c.else-i-s.branch [
      | else-i-s-via-then-i-s+else-k-cell_word w ↦ (λ floats. list_at-out _ _ _ c.args.k (rw w.cell_word.ensures.0 at w.if-k-cell_word.false) ∙ sym (ap (λ (f : Cell). get_or f.neighbours c.args.k 0) (cell-in _ _ floats _ w.if-i-s.true)), search rules)
      | else-i-s-via-else-i-s w ↦ (λ floats. sym (ap (λ (f : Cell). get_or f.neighbours c.args.k 0) (cell-out _ _ floats _ w.if-i-s.false)), search rules)
    ]
