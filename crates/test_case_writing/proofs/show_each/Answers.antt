use Rattle.std.proofs.Common.{ℕ, ◌+◌, ◌<◌, Fits, w64, sym, rules}
use lib.ListN.{length-replicate}
use Rattle.test_case_writing.proofs.show_each.Goals as goal

pub slice_bounds-longs-end : goal.slice_bounds-longs-end
slice_bounds-longs-end g c = sym (length-replicate {0} {A = ℕ} 196640 0)

pub slice_bounds-shorts-end : goal.slice_bounds-shorts-end
slice_bounds-shorts-end g c = sym (length-replicate {0} {A = ℕ} 49184 0)

pub slice_bounds-out-end : goal.slice_bounds-out-end
slice_bounds-out-end g c = sym (length-replicate {0} {A = ℕ} 1573120 0)
