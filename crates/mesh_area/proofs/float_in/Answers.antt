use lib.Ieee.{nan, div, of_bits}
use Rattle.mesh_area.proofs.LayoutLaws.{read-in, read_out}
use Rattle.mesh_area.proofs.float_in.Goals as goal

pub returns-then-i-end : goal.returns-then-i-end
returns-then-i-end c = read-in _ _ _ nan c.if-i-end.true

pub returns-else-i-end : goal.returns-else-i-end
unfolding div of_bits
returns-else-i-end c = read_out _ _ _ nan c.requires c.if-i-end.false
