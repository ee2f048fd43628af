use Rattle.lines_bins.proofs.Laws.{pushed}
use Rattle.lines_bins.proofs.push.Goals as goal

pub returns : goal.returns
returns c =
    pushed _ _ _ _ _ _ _ _ _ _ c.pool-old.ensures.0 c.requires.4 c.set_pool.ensures c.set_pool-2.ensures c.set_pool-3.ensures
