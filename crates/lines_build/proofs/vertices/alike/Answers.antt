use Rattle.lines_field.specs.Vertices.{alike}
use Rattle.lines_build.proofs.vertices.alike.Goals as goal

pub returns-then-p-x : goal.returns-then-p-x
unfolding alike
returns-then-p-x c = rw c.if-p-x.true

pub returns-else-p-x : goal.returns-else-p-x
unfolding alike
returns-else-p-x c = rw c.if-p-x.false
