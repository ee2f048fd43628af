use Prim.Native.Nat.{◌-◌}
use mathlib.Core.Path.{◌≡◌}
use lib.ListN.{length}
use Rattle.mesh_connection.specs.Ensures.{SearchState}
use Rattle.mesh_connection.proofs.reach.Given as goal

abbrev pub invariant-loop-head : goal.invariant-loop-head
invariant-loop-head l = (length l.words ≡ length l.initial.words) × SearchState l.s l.initial.words l.words l.base l.head l.tail

abbrev pub decreases-loop-head : goal.decreases-loop-head
decreases-loop-head l = l.s.cells - l.head
