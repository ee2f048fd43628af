use mathlib.Core.Path.{◌≡◌}
use lib.ListN.{length}
use Rattle.mesh_connection.specs.Ensures.{ClearExit}
use Rattle.mesh_connection.proofs.clear.Given as goal

abbrev pub invariant-loop-i : goal.invariant-loop-i
invariant-loop-i l = (length l.words ≡ length l.initial.words) × ClearExit l.initial.words l.words l.base l.i
