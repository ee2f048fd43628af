-- `probe_world`: the first sample whose polygon holds a point of the plane.
use Rattle.std.specs.Prelude.{Bool, true, false, cond, List, [], ◌∷◌, map, Some, None, ℕ}
use Rattle.arith.specs.F64.{◌≺◌, 1e-8, abs}
use Rattle.arith.specs.Vec.{minus, dot}
use Rattle.arith.specs.Polygon.{even_odd}
use Rattle.arith.specs.declared.Vec2.{Vec2}
use Rattle.arith.specs.declared.Vec3.{Vec3}
use Rattle.planes_cut.specs.declared.Plane.{Plane}
use Rattle.planes_cut.specs.Plane.{normal_of, along}
use Rattle.planes_sums.specs.Sample.{Sample}
use Rattle.std.specs.declared.option.Option.{Option}
use Rattle.reading.specs.declared.Values.{Values}

-- a point's place in the plane
unfoldable pub project : Plane → Vec3 → Vec2
project s p = along s (minus p s.origin)

-- by the even-odd rule, with no tolerance
unfoldable pub covers : Plane → Vec2 → List Vec3 → Bool
covers s q l = even_odd q (map (project s) l)

-- `find`
unfoldable pub first_over : Plane → Vec2 → List Sample → Option (ℕ × Values)
first_over s q [] = None
first_over s q (t ∷ l) =
    elim (covers s q t.geometry.polygon) [ true ↦ Some (t.geometry.cell, t.values) | false ↦ first_over s q l ]

-- a point more than 1e-8 off the plane
unfoldable pub off_plane : Plane → Vec3 → Bool
off_plane s p = 1e-8 ≺ abs (dot (minus p s.origin) (normal_of s))

-- it finds none
unfoldable pub probe : Plane → Vec3 → List Sample → Option (ℕ × Values)
probe s p l = cond (off_plane s p) None (first_over s (project s p) l)
