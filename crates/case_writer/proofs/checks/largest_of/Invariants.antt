use mathlib.Core.Path.{◌≡◌}
use lib.ListN.{drop}
use Rattle.arith.specs.Lists.{fold}
use Rattle.case_file.specs.Field.{larger, largest}
use Rattle.case_writer.proofs.checks.largest_of.Given as goal

abbrev pub invariant-loop-zone : goal.invariant-loop-zone
invariant-loop-zone l = fold larger l.most (drop l.zone-index l.zones) ≡ largest l.zones
