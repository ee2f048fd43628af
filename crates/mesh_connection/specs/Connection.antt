-- `ensure_connected`: "17 not connected". Every cell can be reached from cell 0 over faces that two cells share.
-- `some_below`, `every_below`: some number below n passes, or every one.
-- `one_round`, `rounds`, `connected_by`: reached by rounds.
-- `sides_are`, `joins`, `share`, `connected`: over shared faces.
-- `are_neighbours`, `connected_cells`: over the cells' neighbours.
use Rattle.std.specs.Prelude.{ℕ, zero, suc, Bool, true, false, ◌&&◌, ◌||◌, List, eqb, length, get_or, Some, None}
use Rattle.arith.specs.Lists.{any_of}
use Rattle.arith.specs.Records.{tab}
use Rattle.mesh_area.specs.Tables.{Face, Cell, cell_at}
use Rattle.std.specs.declared.option.Option.{Option}

-- ---- reached by rounds, where `touch i j` says that one gets from cell i to cell j

-- one of 0 .. n - 1 passes
unfoldable pub some_below : (ℕ → Bool) → ℕ → Bool
some_below p zero = false
some_below p (suc n) = p n || some_below p n

-- each of them does
unfoldable pub every_below : (ℕ → Bool) → ℕ → Bool
every_below p zero = true
every_below p (suc n) = p n && every_below p n

-- of n cells: reached before, or touched by one that was
unfoldable pub one_round : (ℕ → ℕ → Bool) → ℕ → List Bool → List Bool
one_round touch n flags = tab (λ j. get_or flags j false || some_below (λ i. get_or flags i false && touch i j) n) n

-- what k rounds from cell 0 reach
unfoldable pub rounds : (ℕ → ℕ → Bool) → ℕ → ℕ → List Bool
rounds touch n zero = tab (λ j. eqb j 0) n
rounds touch n (suc k) = one_round touch n (rounds touch n k)

-- every cell is reached: as many rounds as cells are enough
unfoldable pub connected_by : (ℕ → ℕ → Bool) → ℕ → Bool
connected_by touch n = every_below (λ j. get_or (rounds touch n n) j false) n

-- ---- over shared faces

-- a face has two cells, and they are i and j
unfoldable pub sides_are : ℕ → ℕ → ℕ → Option ℕ → Bool
sides_are i j owner None = false
sides_are i j owner (Some n) = (eqb owner i && eqb n j) || (eqb owner j && eqb n i)

-- the same of a face
unfoldable pub joins : ℕ → ℕ → Face → Bool
joins i j f = sides_are i j f.owner f.neighbour

-- some face joins i and j
unfoldable pub share : List Face → ℕ → ℕ → Bool
share fs i j = any_of (joins i j) fs

-- n cells are connected by shared faces
unfoldable pub connected : ℕ → List Face → Bool
connected n fs = connected_by (share fs) n

-- ---- over the cells' neighbours, as `ensure_connected` walks them; where faces and cells agree it is the same (proofs/Shared.antt)

-- j is a neighbour of i
unfoldable pub are_neighbours : List Cell → ℕ → ℕ → Bool
are_neighbours cs i j = any_of (eqb j) (cell_at cs i).neighbours

-- every cell is reached from cell 0
unfoldable pub connected_cells : List Cell → Bool
connected_cells cs = connected_by (are_neighbours cs) (length cs)
