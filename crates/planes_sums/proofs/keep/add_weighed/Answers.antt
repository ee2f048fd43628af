use Rattle.planes_sums.proofs.AccumulatorLaws.{weighed-whole, weighed-none}
use Rattle.planes_sums.proofs.keep.add_weighed.Goals as goal

pub returns-in_err-sums : goal.returns-in_err-sums
returns-in_err-sums c = weighed-none _ 0 _ _ _ _ _ _ _ c.in_err-sums.was c.from_residual.ensures

pub returns : goal.returns
returns c = weighed-whole _ 0 _ _ _ _ _ _ _ _ _ c.in_ok-sums.was c.measure-area.ensures c.add_integral.ensures
