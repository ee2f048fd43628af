use Rattle.std.proofs.lemmas.Result.{err_from_is_err_and}
use Rattle.mesh_centres.proofs.Laws.{cell-wrong, cell-headed, cell-zero, cell-next}
use Rattle.mesh_centres.proofs.finish_cell.Goals as goal

pub returns-in_err-h : goal.returns-in_err-h
returns-in_err-h c =
    let p = err_from_is_err_and c.from_residual.result c.from_residual.ensures.1 in
    rw (p.1, p.2) (cell-wrong _ _ _ _ _ _ _ _ _ _ c.record_at.ensures c.requires.right c.in_err-h.was)

pub finish_record-requires : goal.finish_record-requires
finish_record-requires c =
    let p = c.requires in
    record {
      lent-floats = p.lent-floats;
      points-there = p.points-there;
      cell = p.cell;
      headed = cell-headed _ _ _ c.record_at.ensures _ _ c.in_ok-h.was;
    }

pub returns-in_err-finish_record : goal.returns-in_err-finish_record
returns-in_err-finish_record c =
    let p = err_from_is_err_and c.from_residual-in_err-finish_record.result c.from_residual-in_err-finish_record.ensures.1 in
    rw (p.1, p.2) (cell-zero _ _ _ c.record_at.ensures _ _ c.in_ok-h.was _ _ _ _ _ _ _ c.finish_record.ensures c.in_err-finish_record.was)

pub returns : goal.returns
returns c = cell-next _ _ _ c.record_at.ensures _ _ c.in_ok-h.was _ _ _ _ _ _ c.finish_record.ensures c.in_ok-finish_record.was
