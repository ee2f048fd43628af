use Rattle.lines_bins.proofs.Laws.{build-done-one, build-done-zero}
use Rattle.lines_bins.proofs.build.Goals as goal

pub returns-then-chain_all : goal.returns-then-chain_all
returns-then-chain_all c = build-done-one _ _ _ _ _ _ _ _ c.chain_all.ensures c.if-chain_all.true c.set_flag.ensures

pub returns-else-chain_all : goal.returns-else-chain_all
returns-else-chain_all c = build-done-zero _ _ _ _ _ _ _ _ c.chain_all.ensures c.set_flag-else-chain_all.ensures
