use native.Mathlib.Omega.{arith}
use lib.ListN.{length-set}
use Rattle.mesh_face_table.proofs.put_measured.Goals as goal

pub bounds-r-4 : goal.bounds-r-4
bounds-r-4 c = simp length-set (omega arith)

pub bounds-r-5 : goal.bounds-r-5
bounds-r-5 c = simp length-set (omega arith)

pub bounds-r-6 : goal.bounds-r-6
bounds-r-6 c = simp length-set (omega arith)

pub bounds-r-7 : goal.bounds-r-7
bounds-r-7 c = simp length-set (omega arith)

pub bounds-r-8 : goal.bounds-r-8
bounds-r-8 c = simp length-set (omega arith)

pub bounds-r-9 : goal.bounds-r-9
bounds-r-9 c = simp length-set (omega arith)
