use Rattle.arith_bytes.proofs.StoreLaws.{listing-next, listing-ends}
use Rattle.arith_bytes.proofs.put_u64s.Goals as goal

pub loop-i-preserved : goal.loop-i-preserved
loop-i-preserved c = listing-next c.loop-i.invariant c.requires c.loop-i-test.true c.put_number.ensures

pub returns : goal.returns
returns c = listing-ends c.loop-i.invariant c.requires c.loop-i-test.false
