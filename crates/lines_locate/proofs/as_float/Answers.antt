use native.Mathlib.Omega.{arith}
use mir.Syntax.{w64}
use mir.ValLaws.{to_z_pos}
use Rattle.arith.proofs.Counts.{whole_in}
use Rattle.lines_locate.proofs.as_float.Goals as goal

pub int_to_float-result : goal.int_to_float-result
int_to_float-result c = rw (to_z_pos w64 c.args.n (omega arith)) (whole_in _ (omega arith))

pub returns : goal.returns
returns c = rw (to_z_pos w64 c.args.n (omega arith))
