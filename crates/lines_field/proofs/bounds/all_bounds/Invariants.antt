use Rattle.lines_field.specs.Ensures.{polygons_in}
use Rattle.lines_field.specs.Bounds.{widened, bounds_of}
use Rattle.arith.specs.Lists.{fold, flatten}
use lib.ListN.{drop}
use mathlib.Core.Path.{◌≡◌}
use Rattle.lines_field.proofs.bounds.all_bounds.Given as goal

abbrev pub invariant-loop-i : goal.invariant-loop-i
invariant-loop-i l = fold widened l.b (flatten (drop l.i (polygons_in l.s l.words l.floats))) ≡ bounds_of (flatten (polygons_in l.s l.words l.floats))
