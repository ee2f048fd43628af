use native.Mathlib.Omega.{arith}
use Rattle.std.proofs.lemmas.Bool.Decides.{nat_tests}
use Rattle.case_file.specs.Trailer.{dimension_of}
use Rattle.case_file.proofs.trailer.dimension.Goals as goal

pub returns-in-102 : goal.returns-in-102
unfolding dimension_of
returns-in-102 c = rw c.in-102.is

pub returns-in-103 : goal.returns-in-103
unfolding dimension_of
returns-in-103 c = rw c.in-103.is

pub returns-in_default : goal.returns-in_default
unfolding dimension_of
returns-in_default c = grind (arith, nat_tests)
