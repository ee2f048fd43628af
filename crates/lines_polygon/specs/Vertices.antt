-- Vertices that stand in a list of floats, as x and y, and how far out a vertex lies.
use Rattle.std.specs.Prelude.{ℕ, ◌+◌, ◌*◌, Bool, ◌&&◌, List, get_or, Float}
use Rattle.std.specs.Float.{nan, binary64}
use Rattle.std.specs.Float.Ieee.{fits}
use Rattle.arith.specs.F64.{within}
use Rattle.arith.specs.Lists.{Side, after}
use Rattle.arith.specs.Records.{tab}
use Rattle.arith.specs.Vec.{pair}
use Rattle.arith.specs.declared.Vec2.{Vec2}

-- the point whose two floats start at a place
unfoldable pub pair_from : List Float → ℕ → Vec2
pair_from floats at = pair (get_or floats at nan) (get_or floats (at + 1) nan)

-- the n points from a place on
unfoldable pub pairs_from : List Float → ℕ → ℕ → List Vec2
pairs_from floats at n = tab (λ k. pair_from floats (at + 2 * k)) n

-- side i of the polygon of the n points from a place on
unfoldable pub side_from : List Float → ℕ → ℕ → ℕ → Side Vec2
side_from floats at n i = record { from = pair_from floats (at + 2 * i); to = pair_from floats (at + 2 * after n i) }

-- a vertex not "beyond 1,048,576 in size" each way, whose y is a float of 64 bits
unfoldable pub xy_within : Vec2 → Bool
xy_within p = within p.x && (within p.y && fits binary64 p.y)
