use Rattle.case_definitions.specs.Faces.{face_count}
use Rattle.case_definitions.specs.Ensures.{definition_at}
use Rattle.case_definitions.proofs.AlikeLaws.{Running}
use Rattle.case_records.proofs.run.Given as goal

abbrev pub invariant-loop-k : goal.invariant-loop-k
invariant-loop-k l = Running l.words l.from l.at l.left (face_count (definition_at l.words l.from)) l.p l.k
