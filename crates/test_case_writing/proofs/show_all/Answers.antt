use Prim.Native.Nat.{ℕ}
use mathlib.Core.Path.{sym}
use lib.ListN.{length-replicate}
use Rattle.test_case_writing.proofs.show_all.Goals as goal

-- `test_case_writing::show_all` is safe. Assumes nothing.
pub slice_bounds-show_each-end : goal.slice_bounds-show_each-end
slice_bounds-show_each-end g c = sym (length-replicate {0} {A = ℕ} 4194432 0)
