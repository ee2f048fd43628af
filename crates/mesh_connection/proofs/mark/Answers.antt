use native.Mathlib.Omega.{arith}
use lib.ListN.{length-set}
use Rattle.mesh_connection.proofs.mark.Goals as goal

pub bounds-words-base-2 : goal.bounds-words-base-2
bounds-words-base-2 c = simp length-set (omega arith)
