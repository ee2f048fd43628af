use Rattle.case_file.specs.Trailer.{words_in}
use Rattle.case_definitions.proofs.AlikeLaws.{Running}
use Rattle.case_definitions.proofs.walker.run.Given as goal

-- `case_definitions::walker::run` meets its contract. Assumes nothing.
abbrev pub invariant-loop-k : goal.invariant-loop-k
invariant-loop-k l = Running (words_in l.words) l.h.at l.at l.left l.h.faces l.p l.k
