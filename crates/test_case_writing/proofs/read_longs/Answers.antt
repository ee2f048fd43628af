use native.Mathlib.Omega.{arith}
use lib.ListN.{length-take}
use Rattle.test_case_writing.proofs.read_longs.Goals as goal

pub slice_bounds-put_longs-end-2 : goal.slice_bounds-put_longs-end-2
slice_bounds-put_longs-end-2 c = simp length-take (omega arith)
