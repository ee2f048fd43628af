-- The smallest box about some points.
use Rattle.std.specs.Prelude.{List}
use Rattle.arith.specs.F64.{+∞, -∞, fmin, fmax}
use Rattle.arith.specs.Lists.{fold}
use Rattle.arith.specs.Vec.{pair}
use Rattle.arith.specs.declared.Vec2.{Vec2}
use Rattle.lines_locate.specs.declared.Box.{Box}

-- no point yet
unfoldable pub boundless : Box
boundless = record { left = +∞; bottom = +∞; right = -∞; top = -∞ }

-- with one more point
unfoldable pub widened : Box → Vec2 → Box
widened b p =
    record { left = fmin b.left p.x; bottom = fmin b.bottom p.y; right = fmax b.right p.x; top = fmax b.top p.y }

-- `bounds`, and `cell_bounds`
unfoldable pub bounds_of : List Vec2 → Box
bounds_of l = fold widened boundless l

-- its low corner
abbrev pub low_corner : Box → Vec2
low_corner b = pair b.left b.bottom

-- its high corner
abbrev pub high_corner : Box → Vec2
high_corner b = pair b.right b.top
