use Rattle.arith_bytes.proofs.StoreLaws.{listing-wide, listing-ends}
use Rattle.arith_bytes.proofs.put_u32s.Goals as goal

pub loop-i-preserved : goal.loop-i-preserved
loop-i-preserved c = listing-wide c.loop-i.invariant c.requires _ c.loop-i-test.true c.from.ensures c.put_number.ensures

pub returns : goal.returns
returns c = listing-ends c.loop-i.invariant c.requires c.loop-i-test.false
