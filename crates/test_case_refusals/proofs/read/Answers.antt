use native.Mathlib.Omega.{arith}
use mathlib.Core.Path.{sym}
use Rattle.case_file.specs.Trailer.{words_from}
use Rattle.case_file.proofs.TrailerLaws.{opens}
use Rattle.test_case_refusals.proofs.read.Goals as goal

-- `test_case_refusals::read` is safe: a case that opened has its definition words. Assumes nothing.
pub words-requires : goal.words-requires
unfolding words_from
words-requires c = omega (arith, (opens _ _ (sym c.in_ok-n.ensures)).whole)
