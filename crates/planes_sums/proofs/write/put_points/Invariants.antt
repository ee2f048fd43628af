use mathlib.Core.Path.{◌≡◌}
use lib.Seq.{sets}
use Rattle.planes_crossings.specs.Ensures.{slice_points}
use Rattle.answers.specs.Words.{point_words}
use Rattle.planes_sums.proofs.write.put_points.Given as goal

abbrev pub invariant-loop-i : goal.invariant-loop-i
invariant-loop-i l = l.answers ≡ sets l.initial.answers l.at (point_words (slice_points l.x l.y l.z l.i))
