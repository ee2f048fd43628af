use native.Mathlib.Omega.{arith}
use Rattle.std.proofs.lemmas.Bool.Decides.{nat_tests}
use Rattle.case_file.specs.Trailer.{has_zones, zones_from}
use Rattle.case_file.proofs.trailer.has_zones.Goals as goal

pub returns-then-n-ne2 : goal.returns-then-n-ne2
unfolding has_zones
returns-then-n-ne2 c = grind (arith, nat_tests)

pub returns-then-case-ge36 : goal.returns-then-case-ge36
unfolding has_zones zones_from
returns-then-case-ge36 c = grind (arith, nat_tests)

pub returns-else-case-ge36 : goal.returns-else-case-ge36
unfolding has_zones
returns-else-case-ge36 c = grind (arith, nat_tests)
