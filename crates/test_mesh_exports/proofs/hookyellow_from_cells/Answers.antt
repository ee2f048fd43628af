-- `test_mesh_exports::hookyellow_from_cells`: the answer of `from_cells` by its number, and its sizes. Assumes nothing.
use native.Mathlib.Omega.{arith}
use lib.ListN.{length-set}
use Rattle.test_mesh_exports.proofs.Laws.{refusal, no_room, sized}
use Rattle.test_mesh_exports.proofs.hookyellow_from_cells.Goals as goal

pub returns-then-sizes-lt3 : goal.returns-then-sizes-lt3
returns-then-sizes-lt3 c = no_room _ c.from_cells.ensures _ c.in-Ok.is c.if-sizes-lt3.true

pub bounds-sizes-1 : goal.bounds-sizes-1
bounds-sizes-1 c = simp length-set (omega arith)

pub returns-in-Err : goal.returns-in-Err
returns-in-Err c = rw c.number.ensures (refusal _ c.from_cells.ensures _ c.in-Err.is)

pub returns-else-sizes-lt3 : goal.returns-else-sizes-lt3
returns-else-sizes-lt3 c = sized _ c.from_cells.ensures _ c.in-Ok.is c.if-sizes-lt3.false
