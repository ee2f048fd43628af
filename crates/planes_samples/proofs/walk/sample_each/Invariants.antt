use Prim.Native.Nat.{◌+◌, ◌*◌, ◌≤◌}
use mathlib.Core.Path.{◌≡◌}
use lib.ListN.{drop}
use Rattle.case_file.specs.Field.{values_of}
use Rattle.planes_sections.specs.Intersect.{pieces_from}
use Rattle.planes_cut.specs.Ensures.{bare}
use Rattle.planes_samples.specs.Ensures.{stream}
use Rattle.planes_sums.specs.Kept.{sample_sums_of, size_of}
use Rattle.planes_samples.proofs.walk.sample_each.Given as goal

abbrev pub invariant-loop-i : goal.invariant-loop-i
invariant-loop-i l =
    (size_of (sample_sums_of l.tally) ≤ 1 + 586 * l.i)
    × (stream l.cut (values_of l.case) (pieces_from (bare l.case l.n.points l.s l.words) l.cut l.i (drop l.i (bare l.case l.n.points l.s l.words).cells)) (sample_sums_of l.tally) l.answers l.marks
    ≡ stream l.cut (values_of l.case) (pieces_from (bare l.case l.n.points l.s l.words) l.cut 0 (bare l.case l.n.points l.s l.words).cells) (sample_sums_of l.initial.tally) l.initial.answers l.initial.marks)
