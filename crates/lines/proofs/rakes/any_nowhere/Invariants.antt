use Rattle.lines.specs.Line.{nowhere}
use Rattle.lines.specs.Rake.{seeds}
use Rattle.lines_velocity.specs.Ensures.{tracer_field}
use Rattle.arith.specs.Lists.{any_of}
use lib.ListN.{drop}
use mathlib.Core.Path.{◌≡◌}
use mathlib.Core.List.{List}
use Prim.Native.Nat.{ℕ}
use Rattle.lines.proofs.rakes.any_nowhere.Given as goal

abbrev pub invariant-loop-i : goal.invariant-loop-i
invariant-loop-i l = (case : List ℕ) → any_of (nowhere (tracer_field l.t case l.words l.floats)) (drop l.i (seeds l.rake)) ≡ any_of (nowhere (tracer_field l.t case l.words l.floats)) (seeds l.rake)
