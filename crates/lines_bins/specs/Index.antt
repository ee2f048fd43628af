-- An index of bins in a work area. From `base` on there are n records of 8 words, which start with the bins of a cell: first x and y,
-- last x and y. After them: a word that says whether the index stands, and a pool of 72n words: the head of each bin, then nodes of two
-- words, a cell and the next node's place or 0.
-- `range_word`, `reaches`, `in_bin`: the bins of a cell. `flag_in`: whether the index stands. `pool_place`, `pool_in`, `head_in`: the words of the pool.
-- `Same`: the records are as they were. `Chain`: the chain of a bin. `passed`, `within`: how far a cell was put into its bins.
use Rattle.std.specs.Prelude.{◌≡◌, Bool, true, false, cond, ◌&&◌, ◌||◌, List, ℕ, ◌+◌, ◌*◌, ◌<◌, ◌≤◌, eqb, ltb, leb, get_or, take}

-- word k of the eight of cell i
abbrev pub range_word : List ℕ → ℕ → ℕ → ℕ → ℕ
range_word w base i k = get_or w (base + 8 * i + k) 0

-- from first to last: "a range that ends below its start lists nothing"
unfoldable pub reaches : ℕ → ℕ → ℕ → Bool
reaches first last b = leb first b && leb b last

-- bin x, y is in the range of cell i
unfoldable pub in_bin : List ℕ → ℕ → ℕ → ℕ → ℕ → Bool
in_bin w base x y i = reaches (range_word w base i 0) (range_word w base i 2) x && reaches (range_word w base i 1) (range_word w base i 3) y

-- 1 where the index stands
abbrev pub flag_in : List ℕ → ℕ → ℕ → ℕ
flag_in w base n = get_or w (base + 8 * n) 0

-- pool word p
abbrev pub pool_place : ℕ → ℕ → ℕ → ℕ
pool_place base n p = base + 8 * n + 1 + p

-- what stands there
unfoldable pub pool_in : List ℕ → ℕ → ℕ → ℕ → ℕ
pool_in w base n p = get_or w (pool_place base n p) 0

-- the start of the chain of bin (x, y)
abbrev pub head_in : List ℕ → ℕ → ℕ → ℕ → ℕ → ℕ → ℕ
head_in w base n nx x y = pool_in w base n (nx * y + x)

-- nothing up to the end of the records is changed
abbrev pub Same : List ℕ → List ℕ → ℕ → ℕ → Type 0
Same w w' base n = take (base + 8 * n) w' ≡ take (base + 8 * n) w

-- one chain: from the node h on it lists exactly the cells from i to n - 1 that r holds of, rising. A node is a place of the pool from
-- heads on and below top, and its next one lies below it
pub data Chain (w : List ℕ) (base heads top : ℕ) (r : ℕ → Bool) (n : ℕ) : ℕ → ℕ → Type 0 where
  none : (i h : ℕ) → h ≡ 0 → ((c : ℕ) → i ≤ c → c < n → r c ≡ false) → Chain w base heads top r n i h
  node : (i h c : ℕ) → heads ≤ h → h + 1 < top → pool_in w base n h ≡ c → i ≤ c → c < n → ((j : ℕ) → i ≤ j → j < c → r j ≡ false) → r c ≡ true
      → pool_in w base n (h + 1) < h → Chain w base heads top r n (c + 1) (pool_in w base n (h + 1)) → Chain w base heads top r n i h

-- bins that were passed at row yy, column xx
unfoldable pub passed : ℕ → ℕ → ℕ → ℕ → Bool
passed yy xx x y = ltb y yy || (eqb y yy && ltb x xx)

-- cell i goes into its bins, row by row
abbrev pub within : ℕ → ℕ → ℕ → ℕ → ℕ → ℕ
within i yy xx x y = cond (passed yy xx x y) i (i + 1)
