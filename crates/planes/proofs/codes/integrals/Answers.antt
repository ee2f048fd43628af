use native.Mathlib.Omega.{arith}
use Rattle.planes_sums.specs.Integrals.{no_integral}
use Rattle.planes_sums.specs.Kept.{size_of, sample_sums_of, integral_of}
use Rattle.planes.proofs.TreeLaws.{integrals-reply}
use Rattle.planes.proofs.codes.integrals.Goals as goal

pub sample_all-r-requires : goal.sample_all-r-requires
unfolding size_of sample_sums_of integral_of
sample_all-r-requires c = (c.requires, omega arith)

pub returns : goal.returns
unfolding no_integral sample_sums_of integral_of
returns c = λ floats. integrals-reply _ _ _ _ _ _ _ _ _ _ _ (c.sample_all-r.ensures floats) c.finish.ensures
