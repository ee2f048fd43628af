use native.Mathlib.Omega.{arith}
use lib.ListN.{length-take}
use Rattle.test_case_writing.proofs.show.Goals as goal

pub slice_bounds-show_convert-end-then-converter : goal.slice_bounds-show_convert-end-then-converter
slice_bounds-show_convert-end-then-converter g c = simp length-take (omega arith)

pub slice_bounds-show_write-end-2 : goal.slice_bounds-show_write-end-2
slice_bounds-show_write-end-2 g c = simp length-take (omega arith)
