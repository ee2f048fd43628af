use mathlib.Core.Path.{◌∙◌}
use native.Mathlib.Omega.{arith}
use Rattle.std.proofs.lemmas.Result.{err_from_is_err_and}
use Rattle.mesh_centres.proofs.Laws.{all-cells, go-next, go-stop}
use borrow.Author.Rules.{rules}
use Rattle.mesh_centres.proofs.finish_cells.Goals as goal

pub loop-i-init : goal.loop-i-init
loop-i-init c = search (all-cells, rules)

pub finish_cell-requires : goal.finish_cell-requires
finish_cell-requires c = search (all-cells, rules)

pub returns-in_err-c : goal.returns-in_err-c
returns-in_err-c c =
    let p = err_from_is_err_and c.from_residual.result c.from_residual.ensures.1 in
    rw (p.1, p.2)
    (go-stop _ _ _ _ _ _ _ _ c.requires _ _ _ c.loop-i.invariant.1 c.loop-i-test.true c.loop-i.invariant.0 _ c.finish_cell.ensures c.in_err-c.was)

pub loop-i-preserved : goal.loop-i-preserved
loop-i-preserved c = (
  c.finish_cell.auto.floats ∙ c.loop-i.invariant.0,
  go-next _ _ _ _ _ _ _ _ c.requires _ _ _ c.loop-i.invariant.1 c.loop-i-test.true c.loop-i.invariant.0 _ _ c.finish_cell.ensures c.in_ok-c.was,
)

pub returns : goal.returns
returns c = search (all-cells, rules)
