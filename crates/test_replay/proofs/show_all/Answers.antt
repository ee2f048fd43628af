use Rattle.std.proofs.Common.{ℕ, sym}
use lib.ListN.{length-replicate}
use lib.Ieee.{Float, nan}
use Rattle.test_replay.proofs.show_all.Goals as goal

pub slice_bounds-case-end : goal.slice_bounds-case-end
slice_bounds-case-end g c = sym (length-replicate {0} {A = ℕ} 1572920 0)

pub slice_bounds-requests-end : goal.slice_bounds-requests-end
slice_bounds-requests-end g c = sym (length-replicate {0} {A = ℕ} 524416 0)

pub slice_bounds-words-end : goal.slice_bounds-words-end
slice_bounds-words-end g c = sym (length-replicate {0} {A = ℕ} 32768 0)

pub slice_bounds-floats-end : goal.slice_bounds-floats-end
slice_bounds-floats-end g c = sym (length-replicate {0} {A = Float} 16384 nan)

pub slice_bounds-marks-end : goal.slice_bounds-marks-end
slice_bounds-marks-end g c = sym (length-replicate {0} {A = ℕ} 16384 0)

pub slice_bounds-answers-end : goal.slice_bounds-answers-end
slice_bounds-answers-end g c = sym (length-replicate {0} {A = ℕ} 16384 0)

pub slice_bounds-text-end : goal.slice_bounds-text-end
slice_bounds-text-end g c = sym (length-replicate {0} {A = ℕ} 16384 0)
