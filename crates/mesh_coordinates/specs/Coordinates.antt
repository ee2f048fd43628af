-- Refusals 8, 9 and 10.
-- `PointBytes`: the bytes hold the points. `acceptable`: the refusals in their order.
use Rattle.std.specs.Prelude.{ℕ, zero, suc, ◌*◌, ◌≤◌, not, List, eqb, length, Ok, Err}
use Rattle.arith.specs.Limits.{most_points}
use Rattle.arith.specs.F64.{finite, within}
use Rattle.arith.specs.Lists.{all_of}
use Rattle.arith.specs.Vec.{each3}
use Rattle.arith.specs.declared.Vec3.{Vec3}
use Rattle.reading.specs.Result.{Refusable, ◌>>=◌, refuse}
use Rattle.case_definitions.specs.Faces.{Definition}
use Rattle.refusal.specs.declared.Refusal.TheVariants.{NoCells, CoordinateNotFinite, CoordinateTooLarge}

-- the bytes hold so many points
pub record PointBytes (case : List ℕ) (points : ℕ) : Type 0 where
  pub few : points ≤ most_points
  pub long : 24 * points ≤ length case

-- 8 "no cells"; 9 "a coordinate not finite"; 10 "one beyond 1,048,576 in size (added)"
unfoldable pub acceptable : List Vec3 → List Definition → Refusable (Unit {0})
acceptable ps defs =
    refuse NoCells (eqb (length defs) 0) >>= λ _.
    refuse CoordinateNotFinite (not (all_of (each3 finite) ps)) >>= λ _.
    refuse CoordinateTooLarge (not (all_of (each3 within) ps))
