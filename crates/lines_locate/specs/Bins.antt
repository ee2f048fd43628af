-- The bins of a grid, and the bins that a cell is listed in.
use Rattle.std.specs.Prelude.{ℕ, ◌%◌, Bool, ◌&&◌, List, [], get_or, Float}
use Rattle.arith.specs.F64.{◌⊖◌, ◌⊗◌, ◌⊘◌, clamp, ofℕ, floorℕ}
use Rattle.arith.specs.declared.Vec2.{Vec2}
use Rattle.lines_bins.specs.Index.{reaches}
use Rattle.lines_locate.specs.declared.Bin.{Bin}
use Rattle.lines_locate.specs.declared.Grid.{Grid}

-- where `a` lies between `low` and `high`, counted in n bins
abbrev pub place_along : Float → Float → ℕ → Float → Float
place_along low high n a = clamp ((a ⊖ low) ⊘ (high ⊖ low)) ⊗ ofℕ n

-- the bin of `a` between `low` and `high`, of n: "`bin_for` ends in modulo, so coordinate 1.0 gives bin 0"
unfoldable pub bin_along : Float → Float → ℕ → Float → ℕ
bin_along low high n a = floorℕ (place_along low high n a) % n

-- `bin_for`
unfoldable pub bin_for : Grid → Vec2 → Bin
bin_for g p =
    record {
      x = bin_along g.bounds.left g.bounds.right g.bins.x p.x;
      y = bin_along g.bounds.bottom g.bounds.top g.bins.y p.y;
    }

-- a cell's polygon with the bins that it is listed in, from first to last each way
pub record CellPolygon : Type 0 where
  pub polygon : List Vec2
  pub first : Bin
  pub last : Bin

-- what stands past the last cell: no vertices
unfoldable pub no_polygon : CellPolygon
no_polygon = record { polygon = []; first = record { x = 0; y = 0 }; last = record { x = 0; y = 0 } }

-- a cell's polygon by number
unfoldable pub cell_polygon_at : List CellPolygon → ℕ → CellPolygon
cell_polygon_at cells i = get_or cells i no_polygon

-- the cell is listed in bin b
unfoldable pub is_listed : Bin → CellPolygon → Bool
is_listed b c = reaches c.first.x c.last.x b.x && reaches c.first.y c.last.y b.y
