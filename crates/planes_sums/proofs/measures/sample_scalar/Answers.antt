use native.Mathlib.Omega.{arith}
use Rattle.planes_sums.specs.Statistics.{scalar_of}
use Rattle.planes_sums.proofs.MeasureLaws.{scalar-else}
use Rattle.planes_sums.proofs.measures.sample_scalar.Goals as goal

pub returns-in-1 : goal.returns-in-1
unfolding scalar_of
returns-in-1 c = rw c.in-1.is

pub returns-in-2 : goal.returns-in-2
unfolding scalar_of
returns-in-2 c = rw c.in-2.is

pub returns-in-3 : goal.returns-in-3
unfolding scalar_of
returns-in-3 c = rw c.in-3.is

pub returns-in-4 : goal.returns-in-4
unfolding scalar_of
returns-in-4 c = rw c.in-4.is

pub returns-in-5 : goal.returns-in-5
unfolding scalar_of
returns-in-5 c = rw c.in-5.is c.dot.ensures

pub returns-in_default : goal.returns-in_default
unfolding scalar_of
returns-in_default c =
    rw c.norm.ensures (scalar-else _ _ _ _ _ _ c.args.field (omega arith) (omega arith) (omega arith) (omega arith) (omega arith))
