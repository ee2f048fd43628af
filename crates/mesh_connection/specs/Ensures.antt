-- The contracts of `ensure_connected` and its parts: what each needs, and what it leaves in the words.
-- `visited_in`, `queue_in`: the flags and the queue. `clear`: `ClearExit`. `mark`: `MarkExit`. `meet`: `MeetExit`.
-- `spread`, `start` and `reach`: `count_below`, `QueuePlace`, `ReachedPlace`, `SearchState`. `ensure_connected`: `EnsureConnectedExit`.
use Rattle.std.specs.Prelude.{ℕ, zero, suc, ◌+◌, ◌*◌, ◌<◌, ◌≤◌, ◌≡◌, Bool, true, false, cond, List, [], ◌≢◌, eqb, Float, get_or, take}
use Rattle.mesh_area.specs.declared.Sizes.{Sizes}
use Rattle.mesh_area.specs.Layout.{cells_in, words_end}
use Rattle.mesh_connection.specs.Connection.{rounds, are_neighbours, connected_cells}

-- ---- the search: flag of cell i in word base + 2 i, place k of the queue in word base + 2 k + 1

-- cell i has its flag
abbrev pub visited_in : List ℕ → ℕ → ℕ → Bool
visited_in w base i = eqb (get_or w (base + 2 * i) 0) 1

-- the cell at place k of the queue
abbrev pub queue_in : List ℕ → ℕ → ℕ → ℕ
queue_in w base k = get_or w (base + 2 * k + 1) 0

-- no cell below n is visited
pub record ClearExit (w w' : List ℕ) (base n : ℕ) : Type 0 where
  pub none : (j : ℕ) → j < n → visited_in w' base j ≡ false
  pub kept : take base w' ≡ take base w

-- cell d is visited now, and stands in the queue at tail
pub record MarkExit (w w' : List ℕ) (base d tail : ℕ) : Type 0 where
  pub seen : visited_in w' base d ≡ true
  pub others : (j : ℕ) → j ≢ d → visited_in w' base j ≡ visited_in w base j
  pub last : queue_in w' base tail ≡ d
  pub queue : (k : ℕ) → k ≢ tail → queue_in w' base k ≡ queue_in w base k
  pub kept : take base w' ≡ take base w

-- cell d is none of the n, was visited, or is now
pub data MeetExit (w w' : List ℕ) (base n d tail r : ℕ) : Type 0 where
  out : n ≤ d → w' ≡ w → r ≡ tail → MeetExit w w' base n d tail r
  was : visited_in w base d ≡ true → w' ≡ w → r ≡ tail → MeetExit w w' base n d tail r
  new : d < n → visited_in w base d ≡ false → MarkExit w w' base d tail → r ≡ tail + 1 → MeetExit w w' base n d tail r

-- how many of 0 .. n - 1 pass
unfoldable pub count_below : (ℕ → Bool) → ℕ → ℕ
count_below p zero = 0
count_below p (suc n) = cond (p n) 1 0 + count_below p n

-- the place of cell j in the queue
pub record QueuePlace (w : List ℕ) (base tail j : ℕ) : Type 0 where
  pub at : ℕ
  pub low : at < tail
  pub here : queue_in w base at ≡ j

-- the k th in the queue was visited, and k rounds reach it
pub record ReachedPlace (w : List ℕ) (base n : ℕ) (touch : ℕ → ℕ → Bool) (k : ℕ) : Type 0 where
  pub inside : queue_in w base k < n
  pub seen : visited_in w base (queue_in w base k) ≡ true
  pub near : get_or (rounds touch n k) (queue_in w base k) false ≡ true

-- who is visited is in the queue, who is in the queue is reached in as many rounds as its place says,
-- and whom the queue has passed has all its neighbours visited; w₀ is the area at the start
pub record SearchState (s : Sizes) (w₀ w : List ℕ) (base head tail : ℕ) : Type 0 where
  pub at-end : base ≡ words_end s
  pub some : 0 < s.cells
  pub kept : take (words_end s) w ≡ take (words_end s) w₀
  pub order : head ≤ tail
  pub fits : tail ≤ s.cells
  pub counted : tail ≡ count_below (visited_in w base) s.cells
  pub begun : visited_in w base 0 ≡ true
  pub queued : (k : ℕ) → k < tail → ReachedPlace w base s.cells (are_neighbours (cells_in s w₀ [])) k
  pub placed : (j : ℕ) → j < s.cells → visited_in w base j ≡ true → QueuePlace w base tail j
  pub closed : (k j : ℕ) → k < head → j < s.cells → are_neighbours (cells_in s w₀ []) (queue_in w base k) j ≡ true → visited_in w base j ≡ true

-- every cell is reached over the neighbours, and the mesh's part is as it was
pub record EnsureConnectedExit (s : Sizes) (w w' : List ℕ) (r : Bool) : Type 0 where
  pub result : (floats : List Float) → r ≡ connected_cells (cells_in s w floats)
  pub kept : take (words_end s) w' ≡ take (words_end s) w
