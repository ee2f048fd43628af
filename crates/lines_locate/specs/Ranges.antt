-- Where the index lists a cell, so that a search looks at few cells. No answer depends on it.
-- The index has bins of its own, as large as the grid's and moved down and to the left by half of one: on a mesh of equal cells, whose sides lie on the
-- borders of the grid's bins, the borders of the index's bins lie within the cells. There is one bin more each way, and none is taken modulo.
-- `index_at`, `index_along`, `index_bin`: the bin of a point. `first_bin`, `last_bin`: the bins that limits meet. `Ranged`: a cell is listed in them.
use Rattle.std.specs.Prelude.{ℕ, ◌+◌, ◌≡◌, cond, List, ltb, Float}
use Rattle.arith.specs.F64.{◌⊕◌, ◌≼◌, 0·5, ofℕ, floorℕ}
use Rattle.arith.specs.Vec.{pair}
use Rattle.arith.specs.declared.Vec2.{Vec2}
use Rattle.lines_bins.specs.Index.{range_word}
use Rattle.lines_polygon.specs.declared.Limits.{Limits}
use Rattle.lines_locate.specs.declared.Bin.{Bin}
use Rattle.lines_locate.specs.declared.Grid.{Grid}
use Rattle.lines_locate.specs.Bins.{place_along}

-- the bin of a place: its whole part, and one more from a half on; of 0 to n
unfoldable pub index_at : ℕ → Float → ℕ
index_at n w = cond (ltb (floorℕ w) n) (cond (ofℕ (floorℕ w) ⊕ 0·5 ≼ w) (floorℕ w + 1) (floorℕ w)) n

-- the bin of `a` between `low` and `high`
unfoldable pub index_along : Float → Float → ℕ → Float → ℕ
index_along low high n a = index_at n (place_along low high n a)

-- the bin of a point
unfoldable pub index_bin : Grid → Vec2 → Bin
index_bin g p =
    record {
      x = index_along g.bounds.left g.bounds.right g.bins.x p.x;
      y = index_along g.bounds.bottom g.bounds.top g.bins.y p.y;
    }

-- the first and the last bin that limits meet
unfoldable pub first_bin : Grid → Limits → Bin
first_bin g l = index_bin g (pair l.left l.low)

unfoldable pub last_bin : Grid → Limits → Bin
last_bin g l = index_bin g (pair l.right l.high)

-- the range of cell i in the words is that of these limits
pub record Ranged (g : Grid) (l : Limits) (words : List ℕ) (base i : ℕ) : Type 0 where
  pub first-x : range_word words base i 0 ≡ (first_bin g l).x
  pub first-y : range_word words base i 1 ≡ (first_bin g l).y
  pub last-x : range_word words base i 2 ≡ (last_bin g l).x
  pub last-y : range_word words base i 3 ≡ (last_bin g l).y
