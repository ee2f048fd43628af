-- The contracts of `fill_neighbours` and its parts: what each needs, and what it leaves in the words.
-- `CellLists`: the cells' lists, as they must stand. `fill_neighbours`: `OutsideList`, `FillNeighboursExit`.
-- `beyond`: `BeyondExit`. `add_new`: `AddNewExit`. `add_beyond`: `AddBeyondExit`.
-- `list_at`: `neighbours_in`, `ListAtExit`. `fill_cell`: `FillCellExit`.
use Rattle.std.specs.Prelude.{ℕ, ◌+◌, ◌*◌, ◌≤◌, ◌<◌, ◌≡◌, List, ◌≢◌, ◌⊎◌, eqb, Float, get_or, Some}
use Rattle.arith.specs.Limits.{2^32}
use Rattle.arith.specs.Lists.{add_new}
use Rattle.mesh_area.specs.declared.Sizes.{Sizes}
use Rattle.mesh_area.specs.Tables.{face_at, cell_at}
use Rattle.mesh_area.specs.Layout.{faces_in, cells_in, list_at}
use Rattle.mesh_neighbours.specs.Neighbours.{beyond, add_neighbour, neighbours_of, first_in, count_in, linked}
use Rattle.std.specs.declared.option.Option.{Option}

-- no face's vertices leave its record, and the cells' lists follow each other within their F words
pub record CellLists (s : Sizes) (words : List ℕ) : Type 0 where
  pub vertices : (f : ℕ) → f < s.faces → get_or words (12 * f + 0) 0 ≤ 8
  pub next : (i : ℕ) → i + 1 < s.cells → first_in s words i + count_in s words i ≤ first_in s words (i + 1)
  pub last : (i : ℕ) → i + 1 ≡ s.cells → first_in s words i + count_in s words i ≤ s.slots

-- word j is none of the neighbour list of cell i, as it then is, and not its count
pub record OutsideList (s : Sizes) (words words' : List ℕ) (i j : ℕ) : Type 0 where
  pub list : (j < 14 * s.slots + first_in s words i) ⊎ (14 * s.slots + first_in s words i + get_or words' (16 * s.slots + 8 * i + 3) 0 ≤ j)
  pub count : j ≢ 16 * s.slots + 8 * i + 3

-- each cell has its neighbours, and every word that is of no cell's list and no count is as it was
pub record FillNeighboursExit (s : Sizes) (words words' : List ℕ) : Type 0 where
  pub cells : (floats : List Float) → cells_in s words' floats ≡ linked (faces_in s words floats) (cells_in s words floats)
  pub faces : (floats : List Float) → faces_in s words' floats ≡ faces_in s words floats
  pub rest : (j : ℕ) → ((i : ℕ) → i < s.cells → OutsideList s words words' i j) → get_or words' j 0 ≡ get_or words j 0

-- the cell beyond face f, which fits a word
pub record BeyondExit (s : Sizes) (w : List ℕ) (cell f : ℕ) (r : Option ℕ) : Type 0 where
  pub found : (floats : List Float) → r ≡ beyond cell (face_at (faces_in s w floats) f)
  pub small : (d : ℕ) → r ≡ Some d → d < 2^32

-- the list of n words at a place, with d added unless it is there
pub record AddNewExit (w w' : List ℕ) (at n d r : ℕ) : Type 0 where
  pub list : list_at w' at r ≡ add_new eqb (list_at w at n) d
  pub more : r ≤ n + 1
  pub grows : n ≤ r
  pub kept : (j : ℕ) → (j < at + n) ⊎ (at + r ≤ j) → get_or w' j 0 ≡ get_or w j 0

-- the same with the cell beyond face f, where there is one
pub record AddBeyondExit (s : Sizes) (w w' : List ℕ) (cell f at n r : ℕ) : Type 0 where
  pub list : (floats : List Float) → list_at w' at r ≡ add_neighbour (faces_in s w floats) cell (list_at w at n) f
  pub more : r ≤ n + 1
  pub grows : n ≤ r
  pub kept : (j : ℕ) → (j < at + n) ⊎ (at + r ≤ j) → get_or w' j 0 ≡ get_or w j 0

-- the neighbours of one cell
abbrev pub neighbours_in : Sizes → List ℕ → List Float → ℕ → List ℕ
neighbours_in s w floats i = neighbours_of (faces_in s w floats) i (cell_at (cells_in s w floats) i).faces

-- the neighbour list of cell i stands at a place, and nothing else changed
pub record ListAtExit (s : Sizes) (w w' : List ℕ) (i at r : ℕ) : Type 0 where
  pub list : (floats : List Float) → list_at w' at r ≡ neighbours_in s w floats i
  pub few : r ≤ count_in s w i
  pub kept : (j : ℕ) → (j < at) ⊎ (at + r ≤ j) → get_or w' j 0 ≡ get_or w j 0

-- cell i has its neighbour list and its count, and nothing else changed
pub record FillCellExit (s : Sizes) (w w' : List ℕ) (i : ℕ) : Type 0 where
  pub list : (floats : List Float) → list_at w' (14 * s.slots + first_in s w i) (get_or w' (16 * s.slots + 8 * i + 3) 0) ≡ neighbours_in s w floats i
  pub few : get_or w' (16 * s.slots + 8 * i + 3) 0 ≤ count_in s w i
  pub kept : (j : ℕ) → OutsideList s w w' i j → get_or w' j 0 ≡ get_or w j 0
