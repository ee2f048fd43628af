use native.Mathlib.Omega.{arith}
use Rattle.std.proofs.lemmas.Bool.Decides.{nat_tests}
use Rattle.case_file.specs.Trailer.{has_parts, has_offsets, words_from, field_from, pressures_from, zones_from, trailer_from}
use Rattle.case_file.proofs.trailer.has_parts.Goals as goal

pub returns-then-has_zones : goal.returns-then-has_zones
unfolding has_parts has_offsets words_from field_from pressures_from zones_from trailer_from
returns-then-has_zones c = grind (arith, nat_tests)

pub returns-else-has_zones : goal.returns-else-has_zones
unfolding has_parts has_offsets words_from field_from pressures_from zones_from trailer_from
returns-else-has_zones c = grind (arith, nat_tests)
