-- `point_in_polygon`: where a point lies to a polygon.
use Rattle.std.specs.Prelude.{ℕ, Bool, true, false, cond, ◌&&◌, List, leb, length, Float}
use Rattle.arith.specs.F64.{◌⊕◌, ◌⊖◌, ◌⊗◌, ◌≼◌, 1e-12, abs, fmin, fmax}
use Rattle.arith.specs.Lists.{Side, sides, any_of}
use Rattle.arith.specs.Polygon.{even_odd}
use Rattle.arith.specs.declared.Vec2.{Vec2}
use Rattle.lines_polygon.specs.declared.Position.{Position}
use Rattle.lines_polygon.specs.declared.Position.TheVariants.{Outside, Edge, Inside}

-- a lies from the lower to the higher of b and c, within 1e-12
unfoldable pub between : Float → Float → Float → Bool
between a b c = (fmin b c ⊖ 1e-12 ≼ a) && (a ≼ fmax b c ⊕ 1e-12)

-- q lies on the line through the side, within 1e-12
unfoldable pub on_line : Vec2 → Side Vec2 → Bool
on_line q s =
    let a = s.from in
    let b = s.to in
    abs ((b.x ⊖ a.x) ⊗ (q.y ⊖ a.y) ⊖ (b.y ⊖ a.y) ⊗ (q.x ⊖ a.x)) ≼ 1e-12

-- `on_edge`: on the side, within 1e-12
unfoldable pub on_edge : Vec2 → Side Vec2 → Bool
on_edge q s = on_line q s && (between q.x s.from.x s.to.x && between q.y s.from.y s.to.y)

-- "outside, on an edge or inside": "edge means that its tolerance test held at some side before the walk ended", whatever was crossed; else the even-odd rule tells
unfoldable pub position : Vec2 → List Vec2 → Position
position q polygon =
    cond (leb 3 (length polygon)) (cond (any_of (on_edge q) (sides polygon)) Edge (cond (even_odd q polygon) Inside Outside)) Outside

-- "0 none, 1 edge, 2 inside"
unfoldable pub position_word : Position → ℕ
position_word Outside = 0
position_word Edge = 1
position_word Inside = 2

-- not outside
unfoldable pub is_within : Position → Bool
is_within Outside = false
is_within Edge = true
is_within Inside = true

-- the polygon contains the point, "tolerance included"
unfoldable pub contains : Vec2 → List Vec2 → Bool
contains q polygon = is_within (position q polygon)
