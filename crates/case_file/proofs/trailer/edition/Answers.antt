use native.Mathlib.Omega.{arith}
use Rattle.std.proofs.lemmas.Bool.Decides.{nat_tests}
use Rattle.case_file.specs.Trailer.{edition_of}
use Rattle.case_file.proofs.trailer.edition.Goals as goal

pub returns-then-w-eq103 : goal.returns-then-w-eq103
unfolding edition_of
returns-then-w-eq103 c = grind (arith, nat_tests)

pub returns-else-w-eq103 : goal.returns-else-w-eq103
unfolding edition_of
returns-else-w-eq103 c = grind (arith, nat_tests)
