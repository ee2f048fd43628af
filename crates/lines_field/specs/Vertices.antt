-- A cell's polygon: the distinct (x, y) of its faces, in angle order about its centre.
-- `alike`, `add_vertex`, `add_vertices`, `cell_vertices`: the distinct points of a cell.
-- `about`, `turns_about`, `polygon_of`: the same in angle order.
use Rattle.std.specs.Prelude.{ℕ, Bool, ◌&&◌, List, []}
use Rattle.arith.specs.F64.{◌⊖◌, ◌≈◌}
use Rattle.arith.specs.Lists.{fold, add_new, sort}
use Rattle.arith.specs.Vec.{pair}
use Rattle.arith_angles.specs.Angle.{turns_before}
use Rattle.arith.specs.declared.Vec3.{Vec3}
use Rattle.arith.specs.declared.Vec2.{Vec2}
use Rattle.mesh_area.specs.Tables.{Mesh, Cell, point_at, face_at}
use Rattle.lines_locate.specs.Locate.{xy_of}

-- `polygon.contains`: by float equality
unfoldable pub alike : Vec2 → Vec2 → Bool
alike p q = (p.x ≈ q.x) && (p.y ≈ q.y)

-- a point, unless the polygon has it
unfoldable pub add_vertex : Mesh → List Vec2 → ℕ → List Vec2
add_vertex m l i = add_new alike l (xy_of (point_at m.points i))

-- the points of a face, in its order
unfoldable pub add_vertices : Mesh → List Vec2 → ℕ → List Vec2
add_vertices m l f = fold (add_vertex m) l (face_at m.faces f).vertices

-- the distinct points of a cell, in face order
unfoldable pub cell_vertices : Mesh → Cell → List Vec2
cell_vertices m c = fold (add_vertices m) [] c.faces

-- from the centre c to p, without its height
unfoldable pub about : Vec3 → Vec2 → Vec2
about c p = pair (p.x ⊖ c.x) (p.y ⊖ c.y)

-- "Angle order replaces atan2": p turns before q about the centre c
unfoldable pub turns_about : Vec3 → Vec2 → Vec2 → Bool
turns_about c p q = turns_before (about c p) (about c q)

-- `polygon.sort_by`: "Ties keep their order."
unfoldable pub polygon_of : Mesh → Cell → List Vec2
polygon_of m c = sort (turns_about c.centre) (cell_vertices m c)
