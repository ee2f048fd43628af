use Rattle.arith.specs.Vec.{norm}
use Rattle.std.proofs.Common.{ap, ◌∙◌}
use Rattle.arith_root.specs.Root.{root}
use Rattle.arith.proofs.Vec3.norm.Goals as goal

pub returns : goal.returns
unfolding norm
returns c = c.sqrt.ensures.value ∙ ap root c.norm_squared.ensures
