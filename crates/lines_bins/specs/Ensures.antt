-- The contracts of `build` and its parts: what each needs and leaves of the index of bins.
-- `set_pool`: `SetPoolExit`. `set_flag`: `SetFlagExit`. `push`: `PushExit`.
-- `Chains`: the chains of all bins. `BinRanges`: the cells' ranges of bins, as the functions below need them. `BinIndex`: the whole index.
-- `clear`, `list_row` and `list_cell`: `ListCellExit`. `fill` and `chain_all`: `FillExit`. `build`: `BuildExit`.
use Rattle.std.specs.Prelude.{◌≡◌, Bool, true, List, ◌≢◌, ℕ, ◌+◌, ◌*◌, ◌<◌, ◌≤◌, length}
use Rattle.arith.specs.Limits.{most_cells}
use Rattle.lines_bins.specs.Index.{range_word, in_bin, flag_in, pool_in, head_in, Same, Chain}

-- one word of the pool stored
pub record SetPoolExit (w w' : List ℕ) (base n p v : ℕ) : Type 0 where
  pub here : pool_in w' base n p ≡ v
  pub others : (q : ℕ) → q ≢ p → pool_in w' base n q ≡ pool_in w base n q
  pub cells : Same w w' base n

-- the word that says whether the index stands, stored
pub record SetFlagExit (w w' : List ℕ) (base n v : ℕ) : Type 0 where
  pub here : flag_in w' base n ≡ v
  pub pool : (q : ℕ) → pool_in w' base n q ≡ pool_in w base n q
  pub cells : Same w w' base n

-- a node for this cell before the chain of the bin
pub record PushExit (w w' : List ℕ) (base n bin cell top : ℕ) : Type 0 where
  pub node : pool_in w' base n top ≡ cell
  pub next : pool_in w' base n (top + 1) ≡ pool_in w base n bin
  pub head : pool_in w' base n bin ≡ top
  pub others : (q : ℕ) → q ≢ bin → q < top → pool_in w' base n q ≡ pool_in w base n q
  pub cells : Same w w' base n

-- each bin's chain lists its cells from a start on
pub record Chains (w : List ℕ) (base n nx ny top : ℕ) (start : ℕ → ℕ → ℕ) : Type 0 where
  pub chain : (x y : ℕ) → x < nx → y < ny → Chain w base (nx * ny) top (in_bin w base x y) n (start x y) (head_in w base n nx x y)
  pub above : nx * ny ≤ top
  pub fits : top ≤ 72 * n

-- the ranges are within the bins, and the area has its room
pub record BinRanges (w : List ℕ) (base n nx ny : ℕ) : Type 0 where
  pub some : 0 < nx * ny
  pub room : base + 88 * n ≤ length w
  pub few : n ≤ most_cells
  pub low : base ≤ 16908288
  pub wide : (i : ℕ) → i < n → range_word w base i 2 < nx
  pub high : (i : ℕ) → i < n → range_word w base i 3 < ny

-- the whole index
pub record BinIndex (w : List ℕ) (base n nx ny : ℕ) : Type 0 where
  pub top : ℕ
  pub chains : Chains w base n nx ny top (λ x y. 0)

-- what listing a cell in some bins leaves; 0: there was no room
pub record ListCellExit (w w' : List ℕ) (base n nx ny top : ℕ) (start : ℕ → ℕ → ℕ) : Type 0 where
  pub cells : Same w w' base n
  pub chains : (top ≡ 0 → ⊥) → Chains w' base n nx ny top start

-- what the fill leaves; false: there was no room
pub record FillExit (w w' : List ℕ) (base n nx ny : ℕ) (r : Bool) : Type 0 where
  pub cells : Same w w' base n
  pub index : r ≡ true → BinIndex w' base n nx ny

-- what the build leaves
pub record BuildExit (w w' : List ℕ) (base n nx ny : ℕ) : Type 0 where
  pub cells : Same w w' base n
  pub index : flag_in w' base n ≡ 1 → BinIndex w' base n nx ny
