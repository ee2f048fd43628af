use Rattle.lines_locate.specs.Layout.{cell_polygons_in}
use Rattle.lines_locate.specs.Locate.{holds}
use Rattle.arith.specs.Lists.{first_from}
use lib.ListN.{drop}
use mathlib.Core.Path.{◌≡◌}
use Rattle.lines_locate.proofs.first_holding.Given as goal

abbrev pub invariant-loop-i : goal.invariant-loop-i
invariant-loop-i l = first_from (holds l.search l.b l.q) l.i (drop l.i (cell_polygons_in l.s l.words l.floats)) ≡ first_from (holds l.search l.b l.q) 0 (cell_polygons_in l.s l.words l.floats)
