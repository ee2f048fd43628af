use Rattle.mesh_face_table.proofs.ChainLaws.{Walking}
use Rattle.mesh_face_table.proofs.walk.Given as goal

abbrev pub invariant-loop-at : goal.invariant-loop-at
invariant-loop-at l = Walking l.words l.slots l.n l.key l.b l.at

abbrev pub decreases-loop-at : goal.decreases-loop-at
decreases-loop-at l = l.at
