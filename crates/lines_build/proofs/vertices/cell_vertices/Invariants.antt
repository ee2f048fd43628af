use Rattle.lines_field.specs.Ensures.{vertices_in}
use Rattle.lines_field.specs.Vertices.{add_vertices, cell_vertices}
use Rattle.mesh_area.specs.Layout.{cells_in, mesh_in, points_in}
use Rattle.mesh_area.specs.Tables.{cell_at}
use Rattle.arith.specs.Lists.{fold}
use lib.ListN.{drop}
use mathlib.Core.List.{[]}
use mathlib.Core.Path.{◌≡◌}
use Prim.Native.Nat.{◌≤◌}
use Rattle.lines_build.proofs.vertices.cell_vertices.Given as goal

abbrev pub invariant-loop-k : goal.invariant-loop-k
invariant-loop-k l = (l.n ≤ 24) × (fold (add_vertices (mesh_in (points_in l.case l.points) l.s l.words [])) (vertices_in l.xs l.ys l.n) (drop l.k (cell_at (cells_in l.s l.words []) l.i).faces) ≡ cell_vertices (mesh_in (points_in l.case l.points) l.s l.words []) (cell_at (cells_in l.s l.words []) l.i)) × (drop l.n l.xs ≡ drop l.n l.initial.xs) × (drop l.n l.ys ≡ drop l.n l.initial.ys)
