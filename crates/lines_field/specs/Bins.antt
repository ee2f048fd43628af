-- How many bins a field has, and which of them list a cell. "19 a bin count above 65,536 (added)"
use Rattle.std.specs.Prelude.{ℕ, max, Bool, not, ◌&&◌, ◌||◌, List, ltb, Float}
use Rattle.arith.specs.Limits.{most_bins}
use Rattle.arith.specs.F64.{◌⊖◌, ◌⊗◌, ◌⊘◌, ◌≺◌, finite, ofℕ, ceilℕ}
use Rattle.arith_root.specs.Root.{root}
use Rattle.arith.specs.declared.Vec2.{Vec2}
use Rattle.lines_locate.specs.declared.Bin.{Bin}
use Rattle.lines_locate.specs.declared.Box.{Box}
use Rattle.lines_locate.specs.declared.Grid.{Grid}
use Rattle.lines_locate.specs.Bins.{CellPolygon, bin_for}
use Rattle.lines_field.specs.Bounds.{bounds_of, low_corner, high_corner}

-- "A cell is listed in the bins from its low corner's to its high corner's"
unfoldable pub listed_in : Grid → List Vec2 → CellPolygon
listed_in g polygon =
    record { polygon = polygon; first = bin_for g (low_corner (bounds_of polygon)); last = bin_for g (high_corner (bounds_of polygon)) }

-- as wide as high
unfoldable pub aspect : Box → Float
aspect b = (b.right ⊖ b.left) ⊘ (b.top ⊖ b.bottom)

-- `bins_x` and `bins_y`, for so many cells
unfoldable pub bin_counts : ℕ → Box → Bin
bin_counts cells b =
    record {
      x = max (ceilℕ (root (ofℕ (max cells 1) ⊗ aspect b))) 1;
      y = max (ceilℕ (root (ofℕ (max cells 1) ⊘ aspect b))) 1;
    }

-- 18 "flat bounds": they are not finite, or not wider and higher than 0
unfoldable pub are_flat : Box → Bool
are_flat b =
    not (finite b.left && (finite b.bottom && ((b.left ≺ b.right) && (b.bottom ≺ b.top))))

-- 19 "a bin count above 65,536"
unfoldable pub are_many : Bin → Bool
are_many n = ltb most_bins n.x || ltb most_bins n.y
