use native.Mathlib.Omega.{arith}
use lib.ListN.{length-take}
use Rattle.test_case_writing.proofs.write_parts.Goals as goal

-- `test_case_writing::write_parts` is safe: the parts lie within the two lists. Assumes nothing.
pub slice_bounds-write-end : goal.slice_bounds-write-end
slice_bounds-write-end g c = simp length-take (omega arith)

pub slice_bounds-write-end-2 : goal.slice_bounds-write-end-2
slice_bounds-write-end-2 g c = simp length-take (omega arith)
