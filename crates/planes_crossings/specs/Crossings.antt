-- `intersect`, its first half: where a plane meets the sides of a cell.
-- `close`: points that are as good as one. `rises`, `parted`, `between`: a side that goes through the plane, and where.
-- `add_end`, `add_between`, `add_crossing`: the points with those of one more side.
-- `shared`, `on_plane`, `foreign`: a face in the plane that another cell owns.
-- `add_side`, `add_face`, `crossings`: the points of a side, of a face, and of a cell.
use Rattle.std.specs.Prelude.{ℕ, Bool, true, false, not, cond, ◌&&◌, ◌||◌, List, [], eqb, Some, None}
use Rattle.arith.specs.F64.{◌⊖◌, ◌⊘◌, ◌≼◌}
use Rattle.arith.specs.Lists.{fold, all_of, add_new, Side, sides}
use Rattle.arith.specs.Vec.{plus, minus, times, norm}
use Rattle.arith.specs.declared.Vec3.{Vec3}
use Rattle.mesh_area.specs.Tables.{Mesh, point_at, face_at}
use Rattle.planes_cut.specs.declared.Cut.{Cut}
use Rattle.planes_cut.specs.Cut.{height, near, below, above}
use Rattle.std.specs.declared.option.Option.{Option}

module _ (c : Cut) where
  -- q is as good as p: their distance is within the tolerance
  unfoldable pub close : Vec3 → Vec3 → Bool
  close p q = norm (minus q p) ≼ c.tolerance

  -- a side goes from below the plane to above it
  unfoldable pub rises : Vec3 → Vec3 → Bool
  rises a b = below c a && above c b

  -- its ends lie on both sides of the plane
  unfoldable pub parted : Vec3 → Vec3 → Bool
  parted a b = rises a b || rises b a

  -- `a + (b - a) * (da / (da - db))`
  unfoldable pub between : Vec3 → Vec3 → Vec3
  between a b = plus a (times (minus b a) (height c a ⊘ (height c a ⊖ height c b)))

  -- where a side from a to b meets the plane: at its first end
  unfoldable pub add_end : List Vec3 → Vec3 → List Vec3
  add_end l a = cond (near c a) (add_new close l a) l

  -- between its ends
  unfoldable pub add_between : List Vec3 → Vec3 → Vec3 → List Vec3
  add_between l a b = cond (parted a b) (add_new close l (between a b)) l

  -- both, in this order
  unfoldable pub add_crossing : List Vec3 → Vec3 → Vec3 → List Vec3
  add_crossing l a b = add_between (add_end l a) a b

-- there is a cell on the other side
unfoldable pub shared : Option ℕ → Bool
shared (Some n) = true
shared None = false

module _ (m : Mesh) (c : Cut) where
  -- a point, by its number, lies in the plane
  unfoldable pub on_plane : ℕ → Bool
  on_plane i = near c (point_at m.points i)

  -- the plane holds the face, which another cell owns: the cell is passed over
  unfoldable pub foreign : ℕ → ℕ → Bool
  foreign cell f =
      shared (face_at m.faces f).neighbour
      && (not (eqb (face_at m.faces f).owner cell) && all_of on_plane (face_at m.faces f).vertices)

  -- a side of a face, by its points' numbers
  unfoldable pub add_side : List Vec3 → Side ℕ → List Vec3
  add_side l side = add_crossing c l (point_at m.points side.from) (point_at m.points side.to)

  -- around one face
  unfoldable pub add_face : List Vec3 → ℕ → List Vec3
  add_face l f = fold add_side l (sides (face_at m.faces f).vertices)

  -- all faces of a cell
  unfoldable pub crossings : List ℕ → List Vec3
  crossings fs = fold add_face [] fs
