use Rattle.mesh_averages.proofs.Laws.{sum-turn, fold_done}
use borrow.Author.Rules.{rules}
use Rattle.mesh_averages.proofs.point_sum.Goals as goal

pub loop-v-init : goal.loop-v-init
loop-v-init c = rw c.new-sum.ensures

pub loop-v-preserved : goal.loop-v-preserved
loop-v-preserved c = search (sum-turn, rules)

pub returns : goal.returns
returns c = search (fold_done, rules)
