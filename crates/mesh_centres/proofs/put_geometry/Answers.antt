use native.Mathlib.Omega.{arith}
use lib.ListN.{length-set}
use Rattle.mesh_centres.proofs.put_geometry.Goals as goal

pub bounds-floats-at-2 : goal.bounds-floats-at-2
bounds-floats-at-2 c = simp length-set (omega arith)

pub bounds-floats-at-3 : goal.bounds-floats-at-3
bounds-floats-at-3 c = simp length-set (omega arith)

pub bounds-floats-at-4 : goal.bounds-floats-at-4
bounds-floats-at-4 c = simp length-set (omega arith)
