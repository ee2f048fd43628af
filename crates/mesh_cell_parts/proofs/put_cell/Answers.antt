use native.Mathlib.Omega.{arith}
use mathlib.Core.Path.{refl}
use lib.ListN.{length-set}
use Rattle.mesh_cell_parts.proofs.put_cell.Goals as goal

pub bounds-words-w-2 : goal.bounds-words-w-2
bounds-words-w-2 c = simp length-set (omega arith)

pub bounds-words-w-3 : goal.bounds-words-w-3
bounds-words-w-3 c = simp length-set (omega arith)

pub bounds-words-w-4 : goal.bounds-words-w-4
bounds-words-w-4 c = simp length-set (omega arith)

pub bounds-floats-f-2 : goal.bounds-floats-f-2
bounds-floats-f-2 c = simp length-set (omega arith)

pub bounds-floats-f-3 : goal.bounds-floats-f-3
bounds-floats-f-3 c = simp length-set (omega arith)

pub returns : goal.returns
returns c = record { words-put = refl; floats-put = refl }
