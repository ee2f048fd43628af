use mathlib.Core.Path.{◌≡◌}
use lib.ListN.{length}
use Rattle.mesh_neighbours.proofs.NeighbourLaws.{Listing}
use Rattle.mesh_neighbours.proofs.list_at.Given as goal

abbrev pub invariant-loop-k : goal.invariant-loop-k
invariant-loop-k l = (length l.words ≡ length l.initial.words) × Listing l.s l.initial.words l.words l.i l.at l.end l.n l.k
