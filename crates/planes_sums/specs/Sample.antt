-- A sample of a section: a piece of it with its cell's velocity and pressure, and its measure.
use Rattle.std.specs.Prelude.{Bool, ◌&&◌, List, [], ◌∷◌, Float}
use Rattle.arith.specs.F64.{0·5, abs, finite}
use Rattle.arith.specs.Lists.{fold, Side, windows}
use Rattle.arith.specs.Vec.{origin, plus, minus, times, dot, cross, each3}
use Rattle.arith.specs.declared.Vec3.{Vec3}
use Rattle.reading.specs.declared.Values.{Values}
use Rattle.planes_sections.specs.Intersect.{PlaneCell}

-- `PlaneSample`
pub record Sample : Type 0 where
  pub geometry : PlaneCell
  pub values : Values

-- velocity and pressure are finite
unfoldable pub has_finite_values : Values → Bool
has_finite_values v = each3 finite v.velocity && finite v.pressure

-- ---- the measure of a sample: its polygon's area vector, against the plane's normal

-- one triangle from the first vertex o
unfoldable pub add_vector : Vec3 → Vec3 → Side Vec3 → Vec3
add_vector o r t = plus r (times (cross (minus t.from o) (minus t.to o)) 0·5)

-- `area_vector`
unfoldable pub vector_of : List Vec3 → Vec3
vector_of [] = origin
vector_of (o ∷ l) = fold (add_vector o) origin (windows l)

-- `measure`
unfoldable pub measure_of : Vec3 → List Vec3 → Float
measure_of normal l = abs (dot (vector_of l) normal)
