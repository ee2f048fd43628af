use mathlib.Core.Path.{◌≡◌}
use lib.ListN.{length}
use Rattle.mesh_neighbours.proofs.NeighbourLaws.{Filled}
use Rattle.mesh_neighbours.proofs.fill_neighbours.Given as goal

abbrev pub invariant-loop-i : goal.invariant-loop-i
invariant-loop-i l = (length l.words ≡ length l.initial.words) × Filled l.s l.initial.words l.words l.i
