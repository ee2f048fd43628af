use native.Mathlib.Omega.{arith}
use Rattle.case_file.specs.Field.{largest}
use Rattle.case_file.proofs.ZoneLaws.{at_most}
use Rattle.case_file.proofs.field.zones_at_most.Goals as goal

pub returns : goal.returns
unfolding largest
returns c = rw c.largest_zone.ensures (at_most _ 0 _ (omega arith))
