use Rattle.std.proofs.Common.{ℕ, sym}
use lib.ListN.{length-replicate}
use lib.Ieee.{Float, nan}
use Rattle.test_mesh_tables.proofs.show_all.Goals as goal

pub slice_bounds-case-end : goal.slice_bounds-case-end
slice_bounds-case-end g c = sym (length-replicate {0} {A = ℕ} 65536 0)

pub slice_bounds-words-end : goal.slice_bounds-words-end
slice_bounds-words-end g c = sym (length-replicate {0} {A = ℕ} 131072 0)

pub slice_bounds-floats-end : goal.slice_bounds-floats-end
slice_bounds-floats-end g c = sym (length-replicate {0} {A = Float} 65536 nan)
