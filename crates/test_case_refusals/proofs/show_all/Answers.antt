use Rattle.std.proofs.Common.{ℕ, sym}
use lib.ListN.{length-replicate}
use Rattle.test_case_refusals.proofs.show_all.Goals as goal

pub slice_bounds-case-end : goal.slice_bounds-case-end
slice_bounds-case-end g c = sym (length-replicate {0} {A = ℕ} 6291548 0)
