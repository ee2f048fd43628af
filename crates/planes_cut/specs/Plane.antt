-- A plane by its origin and two axes. Refusals 36 and 37.
-- `finite_axes`, `not_unit`, `not_orthogonal`, `invalid`: 36. `origin_beyond`: 37. `validated`: the first of the two, if one is due.
-- `normal_of`, `along`: its normal, and a difference along its axes.
use Rattle.std.specs.Prelude.{ℕ, Bool, not, cond, ◌&&◌, ◌||◌}
use Rattle.arith.specs.F64.{◌⊖◌, ◌≺◌, 1·0, 1e-7, abs, finite, within}
use Rattle.arith.specs.Vec.{pair, dot, cross, norm, each3}
use Rattle.arith.specs.declared.Vec2.{Vec2}
use Rattle.arith.specs.declared.Vec3.{Vec3}
use Rattle.planes_cut.specs.declared.Plane.{Plane}
use Rattle.reading.specs.Result.{Refusable, ◌>>=◌, refuse}
use Rattle.refusal.specs.declared.Refusal.TheVariants.{WrongPlane, OriginTooLarge}

-- the origin and both axes are finite
unfoldable pub finite_axes : Plane → Bool
finite_axes s = each3 finite s.origin && (each3 finite s.u && each3 finite s.v)

-- not of length 1, within 1e-7
unfoldable pub not_unit : Vec3 → Bool
not_unit a = 1e-7 ≺ abs (norm a ⊖ 1·0)

-- not at a right angle, within 1e-7
unfoldable pub not_orthogonal : Vec3 → Vec3 → Bool
not_orthogonal u v = 1e-7 ≺ abs (dot u v)

-- "an origin or axes that `FlowPlaneMonitor::validate` refuses"
unfoldable pub invalid : Plane → Bool
invalid s = not (finite_axes s) || (not_unit s.u || (not_unit s.v || not_orthogonal s.u s.v))

-- "an origin coordinate beyond 1,048,576 in size"
unfoldable pub origin_beyond : Plane → Bool
origin_beyond s = not (each3 within s.origin)

-- refusals 36 and 37
unfoldable pub validated : Plane → Refusable (Unit {0})
validated s = refuse WrongPlane (invalid s) >>= λ _. refuse OriginTooLarge (origin_beyond s)

-- `normal`
unfoldable pub normal_of : Plane → Vec3
normal_of s = cross s.u s.v

-- a difference along the plane's two axes
unfoldable pub along : Plane → Vec3 → Vec2
along s d = pair (dot d s.u) (dot d s.v)
