use native.Mathlib.Omega.{arith}
use lib.Ieee.{of_bits}
use Rattle.planes_sums.specs.Statistics.{no_sums}
use Rattle.planes_sums.specs.Kept.{size_of, used_of, sample_sums_of, sums_of}
use Rattle.planes.proofs.TreeLaws.{statistics-reply}
use Rattle.planes.proofs.codes.statistics.Goals as goal

pub sample_all-r-requires : goal.sample_all-r-requires
unfolding size_of used_of sample_sums_of sums_of
sample_all-r-requires c = (c.requires, omega arith)

pub returns : goal.returns
unfolding no_sums sample_sums_of sums_of of_bits
returns c = λ floats. statistics-reply _ _ _ _ _ _ _ _ _ _ _ _ (c.sample_all-r.ensures floats) c.finish.ensures
