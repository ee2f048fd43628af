-- "Angle order replaces atan2 (added)."
-- `leftward`, `quarter`: the quarter of a direction. `slope`: its slope. `angle_of`: its angle, of the two.
-- `precedes`, `turns_before`: the order of angles, and of directions.
use Rattle.std.specs.Prelude.{ℕ, ◌%◌, Bool, not, cond, ◌&&◌, ◌||◌, ltb, eqb, Float}
use Rattle.arith.specs.F64.{◌⊘◌, ◌≺◌, ◌≈◌, 0·0, abs, signed}
use Rattle.arith.specs.declared.Vec2.{Vec2}
use Rattle.arith_angles.specs.declared.Angle.{Angle}

-- "a zero dx beside a nonzero dy counts as +"
unfoldable pub leftward : Vec2 → Bool
leftward d = signed d.x && not ((d.x ≈ 0·0) && not (d.y ≈ 0·0))

-- "Quarter by sign bits of (dy, dx): (-,-), (-,+), (+,+), (+,-)"
unfoldable pub quarter : Vec2 → ℕ
quarter d = cond (signed d.y) (cond (leftward d) 0 1) (cond (leftward d) 3 2)

-- "q = |dy|/|dx| rounded, 0/0 as 0"
unfoldable pub slope : Vec2 → Float
slope d = cond ((d.y ≈ 0·0) && (d.x ≈ 0·0)) 0·0 (abs d.y ⊘ abs d.x)

-- what the order compares of a direction
unfoldable pub angle_of : Vec2 → Angle
angle_of d = record { quarter = quarter d; slope = slope d }

-- "In a quarter q .. rising in the first and third, falling in the others"
unfoldable pub precedes : Angle → Angle → Bool
precedes a b =
    ltb a.quarter b.quarter
    || (eqb a.quarter b.quarter
    && cond (eqb (a.quarter % 2) 0) (a.slope ≺ b.slope) (b.slope ≺ a.slope))

-- one direction turns before another
unfoldable pub turns_before : Vec2 → Vec2 → Bool
turns_before d e = precedes (angle_of d) (angle_of e)
