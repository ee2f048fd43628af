use mathlib.Core.Path.{refl}
use Rattle.lines_field.proofs.PolygonLaws.{storing-start, storing-turn}
use native.Mathlib.Omega.{arith}
use Rattle.lines_build.proofs.build.store_vertices.Goals as goal

pub loop-k-init : goal.loop-k-init
loop-k-init c = storing-start _ _ _ _ _ _

pub loop-k-preserved : goal.loop-k-preserved
loop-k-preserved c = storing-turn _ _ _ _ _ _ _ _ _ c.loop-k.invariant c.loop-k-test.true refl (omega arith) (omega arith)
