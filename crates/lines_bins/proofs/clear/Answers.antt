use Prim.Native.Nat.{ℕ}
use mathlib.Core.Path.{ap, ◌∙◌}
use lib.ListN.{replicate}
use native.Mathlib.Omega.{arith}
use borrow.Rule.Slice.PartMut.{mid_len}
use Rattle.lines_bins.proofs.Laws.{cleared}
use Rattle.lines_bins.proofs.clear.Goals as goal

pub returns : goal.returns
returns c =
    let pre = c.requires in
    let zeros = c.fill.ensures.after (λ y e. e) ∙ ap (λ (m : ℕ). replicate m 0) (mid_len _ _ c.args.words.now (omega arith)) in
    cleared _ _ _ _ _ _ _ pre.bin_ranges.room pre.ny_bound (omega arith) zeros pre.bin_ranges.some
