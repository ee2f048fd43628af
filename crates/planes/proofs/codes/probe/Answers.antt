use native.Mathlib.Omega.{arith}
use Rattle.planes_sums.specs.Kept.{size_of, sample_sums_of}
use Rattle.planes.proofs.TreeLaws.{probe-reply}
use Rattle.planes.proofs.codes.probe.Goals as goal

pub sample_all-r-requires : goal.sample_all-r-requires
unfolding size_of sample_sums_of
sample_all-r-requires c = (c.requires, omega arith)

pub returns : goal.returns
unfolding sample_sums_of
returns c = λ floats. probe-reply _ _ _ _ _ _ _ _ _ _ _ _ _ _ _ c.off-away.ensures c.project-q.ensures (c.sample_all-r.ensures floats) c.unless_off.ensures c.finish.ensures
