use native.Mathlib.Omega.{arith}
use lib.ListN.{length-take}
use Rattle.test_case_writing.proofs.show_convert.Goals as goal

pub slice_bounds-convert-end-2 : goal.slice_bounds-convert-end-2
slice_bounds-convert-end-2 g c = simp length-take (omega arith)
