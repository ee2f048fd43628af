use Rattle.planes_sums.proofs.WriteLaws.{sample-stored}
use Rattle.planes_sums.proofs.write.put_sample.Goals as goal

pub returns : goal.returns
returns c = sample-stored _ _ _ _ _ _ _ _ _ c.put.ensures c.put-2.ensures c.put_vec.ensures c.put_points.ensures c.put_values.ensures
