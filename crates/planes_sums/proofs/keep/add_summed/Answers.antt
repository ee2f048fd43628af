use Rattle.planes_sums.proofs.AccumulatorLaws.{summed-total, summed-none, used-total}
use Rattle.planes_sums.proofs.keep.add_summed.Goals as goal

pub returns-in_err-sums : goal.returns-in_err-sums
returns-in_err-sums c = summed-none _ _ _ _ _ _ _ _ _ c.in_err-sums.was c.from_residual.ensures

pub add_sample-requires : goal.add_sample-requires
add_sample-requires c = used-total _ _ c.in_ok-sums.was c.requires.2

pub returns : goal.returns
returns c = summed-total _ _ _ _ _ _ _ _ _ _ _ c.in_ok-sums.was c.measure-area.ensures c.add_sample.ensures
