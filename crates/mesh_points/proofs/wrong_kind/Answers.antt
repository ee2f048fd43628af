use native.Mathlib.Omega.{arith}
use Rattle.mesh_points.proofs.CollectLaws.{polygon-in-3d, polygon-test, polyhedron-in-2d, polyhedron-test, solid-test, known-kind}
use Rattle.mesh_points.proofs.wrong_kind.Goals as goal

pub returns-then-dimension-ne2 : goal.returns-then-dimension-ne2
returns-then-dimension-ne2 c = λ ws g. polygon-in-3d _ ws _ g c.in-0.is c.if-dimension-ne2.true

pub returns-else-dimension-ne2 : goal.returns-else-dimension-ne2
returns-else-dimension-ne2 c = λ ws g. polygon-test _ ws _ g c.in-0.is c.if-dimension-ne2.false

pub returns-then-dimension-ne3 : goal.returns-then-dimension-ne3
returns-then-dimension-ne3 c = λ ws g. polyhedron-in-2d _ ws _ g c.in-5.is c.if-dimension-ne3.true

pub returns-else-dimension-ne3 : goal.returns-else-dimension-ne3
returns-else-dimension-ne3 c = λ ws g. polyhedron-test _ ws _ g c.in-5.is c.if-dimension-ne3.false

pub returns-in-1-to-4 : goal.returns-in-1-to-4
returns-in-1-to-4 c = λ ws g. solid-test _ ws _ g (omega arith) (omega arith)

pub returns-in-6-to-4294967295 : goal.returns-in-6-to-4294967295
returns-in-6-to-4294967295 c = λ ws g. let k = known-kind c.args.dimension ws _ g in absurd (omega arith)
