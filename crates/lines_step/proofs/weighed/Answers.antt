use Rattle.lines_step.specs.RungeKutta.{weighed}
use Rattle.lines_step.proofs.weighed.Goals as goal

pub returns : goal.returns
unfolding weighed
returns c = rw (c.add-3.ensures, c.scale-3.ensures, c.add-sum.ensures, c.add-2.ensures, c.scale-2.ensures, c.add.ensures, c.scale.ensures)
