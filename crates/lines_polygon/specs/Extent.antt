-- Where a polygon contains no point: what may be stored with it, so that most points need no look at its sides.
-- `LimitsHold`, `limits_from`, `misses`: what limits promise, where they stand, and a point that lies outside of them.
-- `end_within`, `run`, `is_level`, `crossing_within`, `side_within`: what a side is tested for.
-- `reach`, `left_reach`, `sideless`, `widened`, `spared`, `narrowest`, `unlimited`, `limits_of`: the limits that are stored.
use Rattle.std.specs.Prelude.{ℕ, ◌+◌, ◌≡◌, Bool, true, false, cond, ◌&&◌, ◌||◌, List, get_or, Float}
use Rattle.std.specs.Float.{nan}
use Rattle.std.specs.Float.Ieee.{is_nan}
use Rattle.arith.specs.F64.{◌⊕◌, ◌⊖◌, ◌⊗◌, ◌⊘◌, ◌≺◌, ◌≼◌, 0·0, 1e-12, +∞, -∞, finite, fmin, fmax}
use Rattle.arith.specs.Lists.{Side, sides, all_of, fold}
use Rattle.arith.specs.declared.Vec2.{Vec2}
use Rattle.lines_polygon.specs.declared.Limits.{Limits}
use Rattle.lines_polygon.specs.Contains.{contains}

-- no point of the polygon lies below `low`, above `high`, to the right of `right` or to the left of `left`; `high` and `right` are not NaN
pub record LimitsHold (polygon : List Vec2) (l : Limits) : Type 0 where
  pub below : (q : Vec2) → (q.y ≺ l.low) ≡ true → contains q polygon ≡ false
  pub above : (q : Vec2) → (l.high ≺ q.y) ≡ true → contains q polygon ≡ false
  pub beyond : (q : Vec2) → (l.right ≺ q.x) ≡ true → contains q polygon ≡ false
  pub before : (q : Vec2) → (q.x ≺ l.left) ≡ true → contains q polygon ≡ false
  pub high-real : is_nan l.high ≡ false
  pub right-real : is_nan l.right ≡ false

-- the limits whose four floats start at a place
unfoldable pub limits_from : List Float → ℕ → Limits
limits_from floats at =
    record { low = get_or floats at nan; high = get_or floats (at + 1) nan; right = get_or floats (at + 2) nan; left = get_or floats (at + 3) nan }

-- q lies outside by the limits
unfoldable pub misses : Limits → Vec2 → Bool
misses l q = (l.high ≺ q.y) || ((l.right ≺ q.x) || ((q.x ≺ l.left) || (q.y ≺ l.low)))

-- ---- what a side is tested for

-- an end of it lies within the limits, with 1e-12 to spare
unfoldable pub end_within : Limits → Vec2 → Bool
end_within l p =
    (((((l.low ≼ p.y ⊖ 1e-12) && (l.low ≼ p.y)) && (p.y ⊕ 1e-12 ≼ l.high)) && (p.y ≼ l.high)) && (p.x ⊕ 1e-12 ≼ l.right)) && (l.left ≼ p.x ⊖ 1e-12)

-- its run to the right of its first end, as a crossing at the height of its second is computed
unfoldable pub run : Side Vec2 → Float
run s = (s.to.x ⊖ s.from.x) ⊗ (s.to.y ⊖ s.from.y) ⊘ (s.to.y ⊖ s.from.y)

-- its ends are equally high
unfoldable pub is_level : Side Vec2 → Bool
is_level s = (s.from.y ≼ s.to.y) && (s.to.y ≼ s.from.y)

-- it is level, or no crossing with it lies to the right or to the left of the limits
unfoldable pub crossing_within : Limits → Side Vec2 → Bool
crossing_within l s =
    is_level s || (finite (run s) && ((fmax (run s) 0·0 ⊕ s.from.x ≼ l.right) && (l.left ≼ fmin (run s) 0·0 ⊕ s.from.x)))

-- both ends of a side, and every crossing with it, lie within the limits
unfoldable pub side_within : Limits → Side Vec2 → Bool
side_within l s = end_within l s.from && (end_within l s.to && crossing_within l s)

-- ---- the limits that are stored

-- how far to the right a crossing with the side may be computed to lie
unfoldable pub reach : Side Vec2 → Float
reach s = cond (is_level s) s.from.x (fmax (run s) 0·0 ⊕ s.from.x)

-- how far to the left
unfoldable pub left_reach : Side Vec2 → Float
left_reach s = cond (is_level s) s.from.x (fmin (run s) 0·0 ⊕ s.from.x)

-- the limits about no side
unfoldable pub sideless : Limits
sideless = record { low = +∞; high = -∞; right = -∞; left = +∞ }

-- those about one side more
unfoldable pub widened : Limits → Side Vec2 → Limits
widened l s =
    record {
      low = fmin l.low s.from.y;
      high = fmax l.high s.from.y;
      right = fmax l.right (reach s);
      left = fmin l.left (left_reach s);
    }

-- the same with 1e-12 to spare
unfoldable pub spared : Limits → Limits
spared l = record { low = l.low ⊖ 1e-12; high = l.high ⊕ 1e-12; right = l.right ⊕ 1e-12; left = l.left ⊖ 1e-12 }

-- the narrowest about sides that have no NaN
unfoldable pub narrowest : List (Side Vec2) → Limits
narrowest l = spared (fold widened sideless l)

-- no limits
unfoldable pub unlimited : Limits
unlimited = record { low = -∞; high = +∞; right = +∞; left = -∞ }

-- the narrowest where every side is within them, else none
unfoldable pub limits_of : List Vec2 → Limits
limits_of polygon =
    cond (all_of (side_within (narrowest (sides polygon))) (sides polygon)) (narrowest (sides polygon)) unlimited
