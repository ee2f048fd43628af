-- `intersect`: the tolerance of a plane's sections, and how far a point lies from the plane.
-- `widest`, `farthest`, `eps_of`, `tolerance`: the tolerance. `cut_of`: the plane with it.
-- `height`: how far a point lies from the plane. `near`, `below`, `above`: on which side of it.
use Rattle.std.specs.Prelude.{Bool, List, Float}
use Rattle.std.specs.Float.Ieee.{neg}
use Rattle.arith.specs.F64.{◌⊗◌, ◌≺◌, ◌≼◌, 0·0, 1·0, 32·0, 1e-10, 2^-52, abs, fmax}
use Rattle.arith.specs.Lists.{fold}
use Rattle.arith.specs.Vec.{minus, dot, norm}
use Rattle.arith.specs.declared.Vec3.{Vec3}
use Rattle.planes_cut.specs.declared.Plane.{Plane}
use Rattle.planes_cut.specs.declared.Cut.{Cut}
use Rattle.planes_cut.specs.Plane.{normal_of}

-- ---- the tolerance, over all points

-- `span`: the largest distance from the plane's origin
unfoldable pub widest : Vec3 → Float → Vec3 → Float
widest from r p = fmax r (norm (minus p from))

-- `location`: the largest distance from (0, 0, 0)
unfoldable pub farthest : Float → Vec3 → Float
farthest r p = fmax r (norm p)

-- `eps`, by the two
unfoldable pub eps_of : Float → Float → Float
eps_of span location = fmax (span ⊗ 1e-10) (2^-52 ⊗ fmax location 1·0 ⊗ 32·0)

-- `eps`; `location` starts with the origin's own distance
unfoldable pub tolerance : List Vec3 → Vec3 → Float
tolerance ps from = eps_of (fold (widest from) 0·0 ps) (fold farthest (norm from) ps)

-- the plane with its normal and its tolerance
unfoldable pub cut_of : List Vec3 → Plane → Cut
cut_of ps s = record { plane = s; normal = normal_of s; tolerance = tolerance ps s.origin }

-- ---- one point

module _ (c : Cut) where
  -- how far a point lies from the plane
  unfoldable pub height : Vec3 → Float
  height p = dot (minus p c.plane.origin) c.normal

  -- `da.abs() <= eps`
  unfoldable pub near : Vec3 → Bool
  near p = abs (height p) ≼ c.tolerance

  -- `d < -eps`
  unfoldable pub below : Vec3 → Bool
  below p = height p ≺ neg c.tolerance

  -- `d > eps`
  unfoldable pub above : Vec3 → Bool
  above p = c.tolerance ≺ height p
