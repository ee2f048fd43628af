use mathlib.Core.Path.{◌≡◌}
use lib.ListN.{drop}
use Rattle.arith.specs.Lists.{fold}
use Rattle.case_file.specs.Field.{zones_of, larger, largest}
use Rattle.case_file.proofs.field.largest_zone.Given as goal

abbrev pub invariant-loop-i : goal.invariant-loop-i
invariant-loop-i l = fold larger l.most (drop l.i (zones_of l.case)) ≡ largest (zones_of l.case)
