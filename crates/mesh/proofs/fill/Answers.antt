use mathlib.Core.Path.{refl, ap, ◌∙◌}
use Rattle.std.proofs.lemmas.Result.{err_from_is_err_and}
use Rattle.mesh_centres.proofs.HeldLaws.{held-finishable}
use Rattle.mesh.specs.Mesh.{completed}
use Rattle.mesh.proofs.Laws.{adding-refused, adding-faces, held-is, held-sized, lent-words, lent-floats, filled-refused, filled-fine, built-as, barred}
use borrow.Author.Rules.{rules}
use Rattle.mesh.proofs.fill.Goals as goal

pub complete-requires : goal.complete-requires
complete-requires c =
    let p = c.requires in
    let a = adding-faces _ (c.add_cells.ensures p.defs p.right) c.in_ok-faces.was in
    let h = held-sized _ _ _ _ _ _ a.held in
    record {
      finishable =
          held-finishable _ _ _ _ _ _ _ _ h _ _ _ a.partial p.right
          (lent-words _ _ _ _ p.lent-words (search rules) a.held.few)
          (lent-floats _ _ _ _ p.lent-floats (search rules) a.held.few)
          (record { few = p.points-few; long = p.points-there });
      vertices = a.held.vertices;
    }

pub returns-in_err-faces : goal.returns-in_err-faces
returns-in_err-faces c =
    let p = err_from_is_err_and c.from_residual.result c.from_residual.ensures.1 in
    rw (p.1, p.2) (λ defs e. barred (filled-refused _ defs _ _ (adding-refused _ (c.add_cells.ensures defs e) c.in_err-faces.was)))

pub returns : goal.returns
returns c = λ defs e.
    let a = adding-faces _ (c.add_cells.ensures defs e) c.in_ok-faces.was in
    built-as (ap (completed _ _) (held-is _ _ _ _ _ _ a.held) ∙ filled-fine _ defs _ _ a.partial) refl c.complete.ensures
