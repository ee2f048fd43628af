use mathlib.Core.Path.{sym}
use Rattle.lines_polygon.specs.Contains.{on_line}
use Rattle.arith.proofs.Floats.{abs-within}
use Rattle.lines_polygon.proofs.on_line.Goals as goal

pub returns : goal.returns
unfolding on_line
returns c = sym (abs-within _ _)
