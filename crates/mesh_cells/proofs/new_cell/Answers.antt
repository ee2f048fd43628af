use mathlib.Core.Path.{sym, ◌∙◌}
use Rattle.std.proofs.lemmas.Result.{err_from_is_err_and}
use Rattle.case_faces.proofs.FaceLaws.{headed}
use Rattle.mesh_cells.proofs.CellLaws.{found-wrong, found-refused, found-cell}
use Rattle.mesh_cells.proofs.new_cell.Goals as goal

pub returns-in_err-head : goal.returns-in_err-head
returns-in_err-head c =
    let p = err_from_is_err_and c.from_residual.result c.from_residual.ensures.1 in
    rw (p.1, p.2) (found-wrong _ _ _ _ _ _ (sym c.in_err-head.was ∙ c.record_at.ensures))

pub reference_of-requires : goal.reference_of-requires
reference_of-requires c =
    let p = c.requires in
    (headed _ _ _ _ (sym c.in_ok-head.was ∙ c.record_at.ensures), p.0, p.1)

pub returns-in_err-reference : goal.returns-in_err-reference
returns-in_err-reference c =
    let p = err_from_is_err_and c.from_residual-in_err-reference.result c.from_residual-in_err-reference.ensures.1 in
    rw (p.1, p.2) (found-refused _ _ _ _ _ _ _ (sym c.in_ok-head.was ∙ c.record_at.ensures) _ c.reference_of.ensures _ c.in_err-reference.was)

pub returns : goal.returns
returns c =
    found-cell _ _ _ _ _ _ _ (sym c.in_ok-head.was ∙ c.record_at.ensures) _ c.reference_of.ensures _ c.in_ok-reference.was
