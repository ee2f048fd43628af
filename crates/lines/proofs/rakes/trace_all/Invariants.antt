use Rattle.lines.proofs.JobLaws.{left}
use Rattle.lines.specs.Rake.{seeds, lines_words}
use Rattle.lines_velocity.specs.Ensures.{tracer_field}
use Rattle.case_file.specs.Field.{values_of}
use Rattle.reading.proofs.Going.{Going}
use Rattle.lines.specs.Line.{nowhere}
use Rattle.arith.specs.Lists.{any_of}
use mathlib.Core.Bool.{false}
use lib.Seq.{sets}
use lib.ListN.{length, drop}
use mathlib.Core.List.{List}
use mathlib.Core.Path.{◌≡◌}
use Prim.Native.Nat.{ℕ, ◌≤◌, ◌*◌}
use Rattle.lines.proofs.rakes.trace_all.Given as goal

abbrev pub invariant-loop-i : goal.invariant-loop-i
invariant-loop-i l = record { done : List ℕ; as_many : l.written ≡ length done; few : l.written ≤ 196612 * l.i; stand : l.out ≡ sets l.initial.out 1 done; locate : any_of (nowhere (tracer_field l.t l.case l.words l.floats)) (drop l.i (seeds l.rake)) ≡ false; going : Going (lines_words (tracer_field l.t l.case l.words l.floats) l.settings (seeds l.rake)) (values_of l.case) l.initial.marks (left (tracer_field l.t l.case l.words l.floats) l.settings done (drop l.i (seeds l.rake))) l.marks }
