use Rattle.std.proofs.lemmas.Result.{err_from_is_err_and}
use Rattle.mesh_centres.proofs.HeldLaws.{faces-kept}
use Rattle.mesh.proofs.Laws.{laid_out, lent-floats, complete-15, complete-done, finish-zero, finish-done}
use Rattle.mesh.proofs.complete.Goals as goal

pub join-requires : goal.join-requires
join-requires c =
    let p = c.requires in
    let k = p.finishable in
    record {
      lent-words = k.lent-words;
      lent-floats = lent-floats _ _ _ _ k.lent-floats c.finish_cells.ensures.long k.lent-floats.few-faces;
      laid = laid_out _ _ _ k.lists p.vertices;
    }

pub returns-in_err-finish_cells : goal.returns-in_err-finish_cells
returns-in_err-finish_cells c =
    let p = err_from_is_err_and c.from_residual.result c.from_residual.ensures.1 in
    rw (p.1, p.2) (complete-15 _ _ _ _ _ _ _ _ _ (finish-zero _ _ _ _ c.finish_cells.ensures.cells c.in_err-finish_cells.was))

pub returns : goal.returns
returns c =
    let e = c.finish_cells.ensures in
    let k = c.requires.finishable in
    complete-done _ _ _ _ _ _ _ _ _ _ _ (faces-kept _ _ _ _ k.lent-words.few-faces e.faces) (finish-done _ _ _ e.cells c.in_ok-finish_cells.was) (c.join.ensures _)
