use native.Mathlib.Omega.{arith}
use Rattle.std.proofs.lemmas.Result.{err_from_is_err_and}
use Rattle.mesh_cells.proofs.CellLaws.{cell-ready, cell-refused, cell-not-filled, cell-next}
use Rattle.mesh_cells.proofs.add_cell.Goals as goal

pub new_cell-requires : goal.new_cell-requires
new_cell-requires c = let p = c.requires.addable in (p.points-few, p.points-there)

pub returns-in_err-cell : goal.returns-in_err-cell
returns-in_err-cell c =
    let p = err_from_is_err_and c.from_residual.result c.from_residual.ensures.1 in
    rw (p.1, p.2) (cell-refused _ _ _ _ _ _ _ _ _ _ c.requires _ _ _ _ c.new_cell.ensures c.in_err-cell.was)

pub fill_cell-requires : goal.fill_cell-requires
fill_cell-requires c =
    let p = c.requires in
    (cell-ready _ _ _ _ _ _ _ _ _ _ p _ _ _ c.new_cell.ensures c.in_ok-cell.was, p.addable.points-few, p.addable.points-there)

pub returns-in_err-faces : goal.returns-in_err-faces
returns-in_err-faces c =
    let p = err_from_is_err_and c.from_residual-in_err-faces.result c.from_residual-in_err-faces.ensures.1 in
    rw (p.1, p.2) (cell-not-filled _ _ _ _ _ _ _ _ _ _ c.requires _ _ _ _ _ _ _ c.new_cell.ensures c.in_ok-cell.was c.fill_cell.ensures c.in_err-faces.was)

pub overflow_add-result : goal.overflow_add-result
overflow_add-result c =
    let r = cell-ready _ _ _ _ _ _ _ _ _ _ c.requires _ _ _ c.new_cell.ensures c.in_ok-cell.was in
    omega (arith, r.room, r.lent-words.few-slots)

pub returns : goal.returns
returns c =
    cell-next _ _ _ _ _ _ _ _ _ _ c.requires _ _ _ _ _ _ _ c.new_cell.ensures c.in_ok-cell.was c.fill_cell.ensures c.in_ok-faces.was
