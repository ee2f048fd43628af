-- What a cell is made of, and its faces: `CellDefinition::faces`, without what refusal 11 refuses.
-- `Definition`: what a record says.
-- `tetrahedron`, `hexahedron`, `prism`, `pyramid`: the face tables.
-- `ends`, `picked`, `faces_of`: the faces of a cell.
-- `face_count`, `add_face_count`, `faces_counted`: how many there are.
use Rattle.std.specs.Prelude.{ℕ, ◌+◌, List, [], ◌∷◌, map, length, get_or}
use Rattle.arith.specs.Lists.{fold, Side, sides}

-- `CellDefinition`: a solid of the kinds 1 to 4 has its table of faces beside its point numbers
pub data Definition : Type 0 where
  polygon : List ℕ → Definition
  solid : List (List ℕ) → List ℕ → Definition
  polyhedron : List (List ℕ) → Definition

-- ---- "its face tables": the faces of the kinds 1 to 4, row by row as in mesh.rs, each a list of places among the cell's point numbers: a is 0, b is 1, ..

-- `Tetrahedron([a, b, c, d])`
unfoldable pub tetrahedron : List (List ℕ)
tetrahedron =
    (0 ∷ 2 ∷ 1 ∷ [])
    ∷ (0 ∷ 1 ∷ 3 ∷ [])
    ∷ (1 ∷ 2 ∷ 3 ∷ [])
    ∷ (2 ∷ 0 ∷ 3 ∷ [])
    ∷ []

-- `Hexahedron([a, b, c, d, e, f, g, h])`
unfoldable pub hexahedron : List (List ℕ)
hexahedron =
    (0 ∷ 3 ∷ 2 ∷ 1 ∷ [])
    ∷ (4 ∷ 5 ∷ 6 ∷ 7 ∷ [])
    ∷ (0 ∷ 1 ∷ 5 ∷ 4 ∷ [])
    ∷ (1 ∷ 2 ∷ 6 ∷ 5 ∷ [])
    ∷ (2 ∷ 3 ∷ 7 ∷ 6 ∷ [])
    ∷ (3 ∷ 0 ∷ 4 ∷ 7 ∷ [])
    ∷ []

-- `Prism([a, b, c, d, e, f])`
unfoldable pub prism : List (List ℕ)
prism =
    (0 ∷ 2 ∷ 1 ∷ [])
    ∷ (3 ∷ 4 ∷ 5 ∷ [])
    ∷ (0 ∷ 1 ∷ 4 ∷ 3 ∷ [])
    ∷ (1 ∷ 2 ∷ 5 ∷ 4 ∷ [])
    ∷ (2 ∷ 0 ∷ 3 ∷ 5 ∷ [])
    ∷ []

-- `Pyramid([a, b, c, d, e])`
unfoldable pub pyramid : List (List ℕ)
pyramid =
    (0 ∷ 3 ∷ 2 ∷ 1 ∷ [])
    ∷ (0 ∷ 1 ∷ 4 ∷ [])
    ∷ (1 ∷ 2 ∷ 4 ∷ [])
    ∷ (2 ∷ 3 ∷ 4 ∷ [])
    ∷ (3 ∷ 0 ∷ 4 ∷ [])
    ∷ []

-- ---- the faces of a cell, each a list of point numbers

-- the two ends of a polygon's side
unfoldable pub ends : Side ℕ → List ℕ
ends s = s.from ∷ s.to ∷ []

-- a solid's point numbers at a face's places
unfoldable pub picked : List ℕ → List ℕ → List ℕ
picked l [] = []
picked l (k ∷ ks) = get_or l k 0 ∷ picked l ks

-- a polygon's faces are its sides, a polyhedron's its own lists
unfoldable pub faces_of : Definition → List (List ℕ)
faces_of (polygon l) = map ends (sides l)
faces_of (solid places l) = map (picked l) places
faces_of (polyhedron faces) = faces

-- "the faces of all definitions counted singly (a polygon has one per point number)"
unfoldable pub face_count : Definition → ℕ
face_count (polygon l) = length l
face_count (solid places l) = length places
face_count (polyhedron faces) = length faces

-- one more definition
unfoldable pub add_face_count : ℕ → Definition → ℕ
add_face_count n d = n + face_count d

-- F
unfoldable pub faces_counted : List Definition → ℕ
faces_counted ds = fold add_face_count 0 ds
