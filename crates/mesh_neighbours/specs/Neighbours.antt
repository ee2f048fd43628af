-- A cell's neighbours: the cells on the other side of its faces, "in face order".
-- `other_cell`, `beyond`: the cell on the other side of a face.
-- `add_found`, `add_neighbour`, `neighbours_of`: the neighbours of a cell.
-- `linked_at`, `linked`: the cells with their neighbours.
-- `first_in`, `count_in`: where a cell's lists start in the area, and how many faces it has.
use Rattle.std.specs.Prelude.{ℕ, ◌+◌, ◌*◌, cond, List, [], eqb, length, get_or, Some, None}
use Rattle.arith.specs.Lists.{fold, add_new}
use Rattle.arith.specs.Records.{tab}
use Rattle.mesh_area.specs.declared.Sizes.{Sizes}
use Rattle.mesh_area.specs.Tables.{Face, Cell, face_at, cell_at}
use Rattle.std.specs.declared.option.Option.{Option}

-- ---- the definition

-- the other one of a face's two cells, where there are two
unfoldable pub other_cell : ℕ → ℕ → Option ℕ → Option ℕ
other_cell cell owner None = None
other_cell cell owner (Some n) = Some (cond (eqb owner cell) n owner)

-- the same of a face
unfoldable pub beyond : ℕ → Face → Option ℕ
beyond cell f = other_cell cell f.owner f.neighbour

-- first of each kept
unfoldable pub add_found : List ℕ → Option ℕ → List ℕ
add_found l None = l
add_found l (Some n) = add_new eqb l n

-- with the cell beyond face f
unfoldable pub add_neighbour : List Face → ℕ → List ℕ → ℕ → List ℕ
add_neighbour fs cell l f = add_found l (beyond cell (face_at fs f))

-- the cells beyond the faces of a cell
unfoldable pub neighbours_of : List Face → ℕ → List ℕ → List ℕ
neighbours_of fs cell faces = fold (add_neighbour fs cell) [] faces

-- cell i with its neighbours
unfoldable pub linked_at : List Face → List Cell → ℕ → Cell
linked_at fs cs i =
    let c = cell_at cs i in
    record { faces = c.faces; neighbours = neighbours_of fs i c.faces; centre = c.centre; volume = c.volume }

-- all cells, each with its neighbours
unfoldable pub linked : List Face → List Cell → List Cell
linked fs cs = tab (linked_at fs cs) (length cs)

-- ---- in the area

-- where the lists of cell i start
abbrev pub first_in : Sizes → List ℕ → ℕ → ℕ
first_in s words i = get_or words (16 * s.slots + 8 * i + 1) 0

-- how many faces it has
abbrev pub count_in : Sizes → List ℕ → ℕ → ℕ
count_in s words i = get_or words (16 * s.slots + 8 * i + 2) 0
