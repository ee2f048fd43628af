use Rattle.lines_velocity.specs.Velocity.{distance_squared, nearer_of, nearest_of, neighbours_of}
use Rattle.mesh_area.specs.Layout.{cells_in}
use Rattle.arith.specs.Lists.{fold}
use lib.ListN.{drop}
use mathlib.Core.Path.{◌≡◌}
use mathlib.Core.List.{List}
use Prim.Native.Nat.{ℕ}
use Rattle.lines_velocity.proofs.interpolate.nearest.Given as goal

abbrev pub invariant-loop-k : goal.invariant-loop-k
invariant-loop-k l =
    (fold (nearer_of (cells_in l.s l.words l.floats) l.p) l.best.cell (drop l.k (neighbours_of (cells_in l.s l.words l.floats) l.i)) ≡ nearest_of (cells_in l.s l.words l.floats) l.p (neighbours_of (cells_in l.s l.words l.floats) l.i))
    × ((w : List ℕ) → l.best.distance_squared ≡ distance_squared (cells_in l.s w l.floats) l.p l.best.cell)
