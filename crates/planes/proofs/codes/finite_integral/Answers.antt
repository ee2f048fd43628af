use Rattle.planes_sums.specs.Integrals.{finite_integral}
use Rattle.planes.proofs.codes.finite_integral.Goals as goal

pub returns : goal.returns
unfolding finite_integral
returns c = c.are_finite.ensures
