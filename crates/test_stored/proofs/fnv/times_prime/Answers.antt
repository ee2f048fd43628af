use Rattle.std.proofs.Common.{refl}
use Rattle.test_stored.specs.Fnv.{times_prime}
use Rattle.test_stored.proofs.fnv.times_prime.Goals as goal

pub returns : goal.returns
unfolding times_prime
returns c = refl
