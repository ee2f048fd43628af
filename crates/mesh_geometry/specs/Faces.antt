-- What one face of a cell is: mesh.rs's `face_area_vector` and `oriented_face`.
-- `turned_edge`, `add_cross`, `vector_in`, `area_vector`: the area vector of a face.
-- `enough`, `long_enough`, `face_area_vector`: the same, or refusal 13.
-- `Oriented`, `face_with`, `measured`: a face as its vertices stand.
-- `inward`, `turned_if`, `oriented_face`, `left_order`: a face turned outward.
use Rattle.std.specs.Prelude.{ℕ, Bool, true, false, cond, List, reverse, leb, eqb, length, get_or, Float, Ok, Err}
use Rattle.std.specs.Float.Ieee.{neg}
use Rattle.arith.specs.F64.{◌≺◌, 0·0, 0·5, 1e-12}
use Rattle.arith.specs.Lists.{fold, Side, sides}
use Rattle.arith.specs.Vec.{vec, origin, plus, minus, times, over, dot, cross, norm}
use Rattle.arith.specs.declared.Vec3.{Vec3}
use Rattle.reading.specs.Result.{Refusable, ◌>>=◌}
use Rattle.mesh_area.specs.Tables.{point_at}
use Rattle.mesh_averages.specs.Averages.{average}
use Rattle.refusal.specs.declared.Refusal.TheVariants.{DegenerateFace}

-- ---- `face_area_vector`

-- in 2D the edge turned by a right angle, (y, -x, 0)
unfoldable pub turned_edge : Vec3 → Vec3
turned_edge e = vec e.y (neg e.x) 0·0

-- in 3D the cross product of one side's ends added
unfoldable pub add_cross : List Vec3 → Vec3 → Side ℕ → Vec3
add_cross ps s side = plus s (cross (point_at ps side.from) (point_at ps side.to))

-- the area vector of a face, in 2D or 3D
unfoldable pub vector_in : Bool → List Vec3 → List ℕ → Vec3
vector_in true ps l = turned_edge (minus (point_at ps (get_or l 1 0)) (point_at ps (get_or l 0 0)))
vector_in false ps l = times (fold (add_cross ps) origin (sides l)) 0·5

-- as long as the edge in 2D, or as the face's area in 3D
unfoldable pub area_vector : ℕ → List Vec3 → List ℕ → Vec3
area_vector d ps l = vector_in (eqb d 2) ps l

-- 2 points in 2D, 3 or more in 3D
unfoldable pub enough : ℕ → List ℕ → Bool
enough d l = cond (eqb d 2) (eqb (length l) 2) (leb 3 (length l))

-- longer than the "tolerance 1e-12"
unfoldable pub long_enough : Vec3 → Refusable Vec3
long_enough v = cond (1e-12 ≺ norm v) (Ok v) (Err DegenerateFace)

-- refusal 13, "degenerate face"
unfoldable pub face_area_vector : ℕ → List Vec3 → List ℕ → Refusable Vec3
face_area_vector d ps l = cond (enough d l) (long_enough (area_vector d ps l)) (Err DegenerateFace)

-- ---- `oriented_face`

-- `OrientedFace`: a face of one cell, with its vertices in the order in which it was summed
pub record Oriented : Type 0 where
  pub vertices : List ℕ
  pub centre : Vec3
  pub area : Float
  pub normal : Vec3
  pub area_vector : Vec3

-- the face of an area vector
unfoldable pub face_with : List Vec3 → List ℕ → Vec3 → Oriented
face_with ps l v = record { vertices = l; centre = average ps l; area = norm v; normal = over v (norm v); area_vector = v }

-- a face as its vertices stand, or refusal 13
unfoldable pub measured : ℕ → List Vec3 → List ℕ → Refusable Oriented
measured d ps l = face_area_vector d ps l >>= λ v. Ok (face_with ps l v)

-- whether it looks towards the cell's average; a product of exactly 0 does not
unfoldable pub inward : Vec3 → Oriented → Bool
inward reference f = dot f.area_vector (minus f.centre reference) ≺ 0·0

-- a face that is turned has its average and its vector summed again in the turned order, and 13 is tested again
unfoldable pub turned_if : Bool → ℕ → List Vec3 → Oriented → Refusable Oriented
turned_if true d ps f = measured d ps (reverse f.vertices)
turned_if false d ps f = Ok f

-- "faces turned outward"
unfoldable pub oriented_face : ℕ → List Vec3 → Vec3 → List ℕ → Refusable Oriented
oriented_face d ps reference l = measured d ps l >>= λ f. turned_if (inward reference f) d ps f

-- the order in which `oriented_face` leaves the vertices: turned too where 13 came only after the turn
unfoldable pub left_order : Vec3 → List ℕ → Refusable Oriented → List ℕ
left_order reference l (Err n) = l
left_order reference l (Ok f) = cond (inward reference f) (reverse l) l
