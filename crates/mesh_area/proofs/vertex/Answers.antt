use mathlib.Core.Path.{sym, ap, ◌∙◌}
use lib.ListN.{get_or}
use Rattle.mesh_area.specs.Tables.{Face}
use Rattle.mesh_area.proofs.LayoutLaws.{face-in, face-out, list_at-from, list_at-out}
use Rattle.mesh_area.specs.Layout.{face_in}
use borrow.Author.Rules.{rules}
use Rattle.mesh_area.proofs.vertex.Goals as goal
use Rattle.mesh_area.proofs.vertex.Goals.{else-f-s-via-then-f-s+else-k-face_word, else-f-s-via-else-f-s}

pub returns-then-k-face_word : goal.returns-then-k-face_word
unfolding face_in
returns-then-k-face_word c =
    let n = c.face_word.ensures.0 in
    let k = c.args.k in (
      λ floats.
          c.face_word-then-k-face_word.ensures.0 ∙ sym (list_at-from _ _ 1 _ k (rw n at c.if-k-face_word.true))
          ∙ sym (ap (λ (f : Face). get_or f.vertices k 0) (face-in _ _ floats _ c.if-f-s.true)),
      c.face_word-then-k-face_word.ensures.1,
    )

pub returns-else-f-s : goal.returns-else-f-s
unfolding face_in
returns-else-f-s c =
    elim c.else-f-s.branch [
      | else-f-s-via-then-f-s+else-k-face_word w ↦ (λ floats. list_at-out _ _ _ c.args.k (rw w.face_word.ensures.0 at w.if-k-face_word.false) ∙ sym (ap (λ (f : Face). get_or f.vertices c.args.k 0) (face-in _ _ floats _ w.if-f-s.true)), search rules)
      | else-f-s-via-else-f-s w ↦ (λ floats. sym (ap (λ (f : Face). get_or f.vertices c.args.k 0) (face-out _ _ floats _ w.if-f-s.false)), search rules)
    ]
