-- The average of points: mesh.rs's `average_point`.
use Rattle.std.specs.Prelude.{ℕ, List, length}
use Rattle.arith.specs.F64.{ofℕ}
use Rattle.arith.specs.Lists.{fold}
use Rattle.arith.specs.Vec.{origin, plus, over}
use Rattle.arith.specs.declared.Vec3.{Vec3}
use Rattle.mesh_area.specs.Tables.{point_at}

-- one more point in the sum
unfoldable pub add_point : List Vec3 → Vec3 → ℕ → Vec3
add_point ps s i = plus s (point_at ps i)

-- the points summed in the list's order, over their number: "its cell averages in rising point order, its face averages in the face's own order"
unfoldable pub average : List Vec3 → List ℕ → Vec3
average ps l = over (fold (add_point ps) origin l) (ofℕ (length l))
