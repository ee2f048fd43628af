use Rattle.lines_field.proofs.BuildLaws.{store-polygon}
use native.Mathlib.Omega.{arith}
use Rattle.lines_build.proofs.build.store_polygon.Goals as goal

pub returns : goal.returns
returns c = store-polygon _ _ _ _ _ _ _ _ _ c.floats_at.ensures c.words_at-at.ensures c.store_vertices.ensures.0 c.store_vertices.ensures.1 (omega arith) (omega arith)
