use mathlib.Core.Path.{refl, ◌∙◌}
use Rattle.std.proofs.lemmas.Result.{err_from_is_err_and}
use Rattle.mesh_cells.proofs.CellLaws.{filled-start, addable-kept, added-refused, added_next, drafts-refused, drafts-done}
use Rattle.mesh_cells.proofs.fill_cells.Goals as goal

pub loop-i-init : goal.loop-i-init
loop-i-init c = (refl, refl, filled-start _ _ _ _ _ _ _ _ c.requires.0 c.requires.1)

pub add_cell-requires : goal.add_cell-requires
add_cell-requires c =
    let v = c.loop-i.invariant in
    record { addable = addable-kept _ _ _ _ _ _ _ _ c.requires.0 v.0 v.1; cell = c.loop-i-test.true; filled = v.2 }

pub returns-in_err-p : goal.returns-in_err-p
returns-in_err-p c =
    let p = err_from_is_err_and c.from_residual.result c.from_residual.ensures.1 in
    rw (p.1, p.2) (λ defs e. drafts-refused _ _ _ _ _ _ _ _ c.requires.0 defs e _ _ _ (added-refused _ _ _ _ _ _ _ _ _ c.add_cell.ensures c.in_err-p.was))

pub loop-i-preserved : goal.loop-i-preserved
loop-i-preserved c =
    let v = c.loop-i.invariant in (
      c.add_cell.auto.words ∙ v.0,
      c.add_cell.auto.floats ∙ v.1,
      added_next _ _ _ _ _ _ _ _ _ c.add_cell.ensures c.in_ok-p.was,
    )

pub returns : goal.returns
returns c =
    let v = c.loop-i.invariant in
    λ defs e. drafts-done _ _ _ _ _ _ _ _ c.requires.0 defs e _ _ _ _ v.0 v.2 c.loop-i.auto.i-end c.loop-i-test.false
