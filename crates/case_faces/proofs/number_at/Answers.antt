use native.Mathlib.Omega.{arith}
use Rattle.case_file.proofs.ReadLaws.{length-words_in}
use Rattle.case_faces.proofs.number_at.Goals as goal

-- `case_faces::number_at` meets its contract. Assumes nothing.
pub overflow_add-first : goal.overflow_add-first
overflow_add-first c = omega (arith, length-words_in c.args.words.now)
