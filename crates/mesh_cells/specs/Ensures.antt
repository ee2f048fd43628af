-- The contracts of `add_cells` and its parts: what each needs, what it leaves in the area, and what its answer means.
-- `FaceLists`: where the cells' lists stand. `PartialMeshHeld`: all partial cells, in the area. `fill_cells` and `add_cells`: `AddCellsExit`.
-- `cell_faces_in`: the table and a cell's list, in the area. `add_face`: `AddFaceEntry`, `ListGrowth`, `add_face_at`, `AddFaceExit`.
-- `add_faces`: `AddFacesEntry`, `add_faces`, `AddFacesExit`. `fill_cell`: `FillCellEntry`, `StoredCell`, `FillCellExit`. `new_cell`: `NewCellExit`.
-- `CellsSoFar`: the first cells, in the area. `read`, `defined_in`: the definitions of all cells.
-- `fill_cells` and `add_cells`: `AddCellsEntry`. `add_cell`: `AddCellEntry`, `AddCellExit`.
use Rattle.std.specs.Prelude.{ℕ, ◌+◌, ◌*◌, ◌≤◌, ◌<◌, ◌-◌, ◌≡◌, List, [], length, get_or, drop, Float, Ok, Err}
use Rattle.arith.specs.Limits.{most_points, most_cells, most_words}
use Rattle.arith.specs.declared.Vec3.{Vec3}
use Rattle.reading.specs.Result.{Refusable, steps}
use Rattle.case_definitions.specs.Faces.{Definition, faces_of, add_face_count, faces_counted}
use Rattle.case_definitions.specs.Ensures.{definition_at, face_at, step_at, HeadAt}
use Rattle.mesh_area.specs.declared.Sizes.{Sizes}
use Rattle.mesh_area.specs.Layout.{list_at, vec_from, faces_in, LentWords, LentFloats}
use Rattle.mesh_faces.specs.Ensures.{with_faces}
use Rattle.mesh_cells.specs.Cells.{PartialMesh, partial_mesh, add_cell}
use Rattle.arith.specs.Lists.{fold}
use Rattle.case_faces.specs.Ensures.{AtFace}
use Rattle.case_definitions.specs.declared.Cursor.{Cursor}
use Rattle.case_definitions.specs.declared.Head.{Head}
use Rattle.case_faces.specs.declared.FaceCursor.{FaceCursor}
use Rattle.mesh_area.specs.Tables.{Face}
use Rattle.mesh_face_table.specs.Chains.{Chained}
use Rattle.mesh_points.specs.Collect.{checked}
use Rattle.mesh_cell_parts.specs.Parts.{CellFaces, add_face_of}
use Rattle.mesh_cell_parts.specs.declared.NewCell.{NewCell}
use Rattle.mesh_cells.specs.Partial.{cell_word, partial_cells_in, partial_cell_in}
use Rattle.mesh_cells.specs.declared.Progress.{Progress}
use Rattle.case_definitions.specs.Definitions as Words
use Rattle.refusal.specs.declared.Refusal.{Refusal}

-- the lists of the first n cells follow each other, each as long as its definition has faces, up to `end`; no neighbours are listed yet
pub record FaceLists (ws : List ℕ) (s : Sizes) (words : List ℕ) (n end : ℕ) : Type 0 where
  pub first : 0 < n → cell_word s words 0 1 ≡ 0
  pub next : (i : ℕ) → i + 1 < n → cell_word s words (i + 1) 1 ≡ cell_word s words i 1 + cell_word s words i 2
  pub last : (i : ℕ) → i + 1 ≡ n → end ≡ cell_word s words i 1 + cell_word s words i 2
  pub none : n ≡ 0 → end ≡ 0
  pub few : (i : ℕ) → i < n → cell_word s words i 2 ≤ 24
  pub counts : (i : ℕ) → i < n → cell_word s words i 2 ≡ length (faces_of (partial_cell_in ws s words [] i).definition)
  pub unlinked : (i : ℕ) → i < n → cell_word s words i 3 ≡ 0

-- all cells stand in the area as partial cells
pub record PartialMeshHeld (ws : List ℕ) (s : Sizes) (words : List ℕ) (floats : List Float) (faces : ℕ) (t : PartialMesh) : Type 0 where
  pub table : faces_in (with_faces s faces) words floats ≡ t.faces
  pub few : faces ≤ s.slots
  pub vertices : (f : ℕ) → f < faces → get_or words (12 * f + 0) 0 ≤ 8
  pub cells : partial_cells_in ws s words floats s.cells ≡ t.cells
  pub lists : FaceLists ws s words s.cells s.slots

-- what `add_cells` answers: the number of faces in the table, or the first refusal of 11 to 14
pub data AddCellsExit (d : ℕ) (ps : List Vec3) (ws : List ℕ) (defs : List Definition) (s : Sizes) (words : List ℕ) (floats : List Float) : Refusable ℕ → Type 0 where
  added : {n : ℕ} {t : PartialMesh} → partial_mesh d ps defs ≡ Ok t → PartialMeshHeld ws s words floats n t → AddCellsExit d ps ws defs s words floats (Ok n)
  refusing : {k : Refusal} → partial_mesh d ps defs ≡ Err k → AddCellsExit d ps ws defs s words floats (Err k)

-- ---- one face

-- the table, and the first k numbers of the cell whose list starts at `first`
abbrev pub cell_faces_in : Sizes → List ℕ → List Float → ℕ → ℕ → CellFaces
cell_faces_in s words floats first k = record { faces = faces_in s words floats; numbers = list_at words (13 * s.slots + first) k }

-- ---- the faces of one cell

-- c is a face of the cell, and the entries of the cell's list up to c's are there
pub record AddFaceEntry (ws : List ℕ) (s : Sizes) (words : List ℕ) (floats : List Float) (cell : NewCell) (c : FaceCursor) : Type 0 where
  pub at-face : AtFace ws cell.head c
  pub face : c.face < cell.head.faces
  pub lent-words : LentWords s words
  pub lent-floats : LentFloats s floats
  pub chained : Chained s words
  pub behind : s.faces ≤ cell.first + c.face
  pub room : cell.first + cell.head.faces ≤ s.slots
  pub cells-few : cell.number < most_cells

-- the table has n faces; from 13F on only `count` words from `first` on have changed, and no float from 12F on
pub record ListGrowth (s : Sizes) (words words' : List ℕ) (floats floats' : List Float) (first count n : ℕ) : Type 0 where
  pub chained : Chained (with_faces s n) words'
  pub behind : n ≤ first + count
  pub before : (j : ℕ) → j < first → get_or words' (13 * s.slots + j) 0 ≡ get_or words (13 * s.slots + j) 0
  pub after : (j : ℕ) → first + count ≤ j → get_or words' (13 * s.slots + j) 0 ≡ get_or words (13 * s.slots + j) 0
  pub floats-kept : drop (12 * s.slots) floats' ≡ drop (12 * s.slots) floats
  pub long-words : length words' ≡ length words
  pub long-floats : length floats' ≡ length floats

-- face k of a cell
abbrev pub add_face_at : ℕ → List Vec3 → List ℕ → NewCell → CellFaces → ℕ → Refusable CellFaces
add_face_at d ps ws cell g k = add_face_of d ps cell.number cell.reference g (face_at ws cell.head.at k)

-- `add_face`: the next face and the number of faces, or refusal 13 or 14
pub data AddFaceExit (d : ℕ) (ps : List Vec3) (ws : List ℕ) (cell : NewCell) (s : Sizes) (words words' : List ℕ) (floats floats' : List Float) (c : FaceCursor) : Refusable (FaceCursor × ℕ) → Type 0 where
  next : (q : FaceCursor) (n : ℕ) → add_face_at d ps ws cell (cell_faces_in s words floats cell.first c.face) c.face
      ≡ Ok (cell_faces_in (with_faces s n) words' floats' cell.first (c.face + 1))
      → q.face ≡ c.face + 1 → AtFace ws cell.head q → ListGrowth s words words' floats floats' (cell.first + c.face) 1 n
      → AddFaceExit d ps ws cell s words words' floats floats' c (Ok (q, n))
  refusing : (k : Refusal) → add_face_at d ps ws cell (cell_faces_in s words floats cell.first c.face) c.face ≡ Err k
      → AddFaceExit d ps ws cell s words words' floats floats' c (Err k)

-- the faces of the cell come next
pub record AddFacesEntry (ws : List ℕ) (s : Sizes) (words : List ℕ) (floats : List Float) (cell : NewCell) : Type 0 where
  pub headed : HeadAt ws cell.head
  pub lent-words : LentWords s words
  pub lent-floats : LentFloats s floats
  pub chained : Chained s words
  pub behind : s.faces ≤ cell.first
  pub room : cell.first + cell.head.faces ≤ s.slots
  pub cells-few : cell.number < most_cells

-- all faces of a cell
abbrev pub add_faces : ℕ → List Vec3 → List ℕ → NewCell → List Face → Refusable CellFaces
add_faces d ps ws cell fs = steps (add_face_of d ps cell.number cell.reference) (record { faces = fs; numbers = [] }) (faces_of (definition_at ws cell.head.at))

-- `add_faces`: the number of faces, or the first refusal of 13 and 14
pub data AddFacesExit (d : ℕ) (ps : List Vec3) (ws : List ℕ) (cell : NewCell) (s : Sizes) (words words' : List ℕ) (floats floats' : List Float) : Refusable ℕ → Type 0 where
  added : (n : ℕ) → add_faces d ps ws cell (faces_in s words floats) ≡ Ok (cell_faces_in (with_faces s n) words' floats' cell.first cell.head.faces)
      → ListGrowth s words words' floats floats' cell.first cell.head.faces n
      → AddFacesExit d ps ws cell s words words' floats floats' (Ok n)
  refusing : (k : Refusal) → add_faces d ps ws cell (faces_in s words floats) ≡ Err k → AddFacesExit d ps ws cell s words words' floats floats' (Err k)

-- ---- one cell

-- the words and the area are as cell i needs them
pub record FillCellEntry (ws : List ℕ) (s : Sizes) (words : List ℕ) (floats : List Float) (cell : NewCell) : Type 0 where
  pub headed : HeadAt ws cell.head
  pub lent-words : LentWords s words
  pub lent-floats : LentFloats s floats
  pub chained : Chained s words
  pub behind : s.faces ≤ cell.first
  pub room : cell.first + cell.head.faces ≤ s.slots
  pub below : cell.number < s.cells
  pub position : cell.head.at < most_words

-- the cell is stored; nothing of the cells before it has changed
pub record StoredCell (s : Sizes) (words words' : List ℕ) (floats floats' : List Float) (cell : NewCell) (n : ℕ) : Type 0 where
  pub chained : Chained (with_faces s n) words'
  pub behind : n ≤ cell.first + cell.head.faces
  pub position : cell_word s words' cell.number 0 ≡ cell.head.at
  pub start : cell_word s words' cell.number 1 ≡ cell.first
  pub count : cell_word s words' cell.number 2 ≡ cell.head.faces
  pub unlinked : cell_word s words' cell.number 3 ≡ 0
  pub averaged : vec_from floats' (12 * s.slots + 4 * cell.number) ≡ cell.reference
  pub lists-kept : (j : ℕ) → j < cell.first → get_or words' (13 * s.slots + j) 0 ≡ get_or words (13 * s.slots + j) 0
  pub cells-kept : (j k : ℕ) → j < cell.number → k < 4 → cell_word s words' j k ≡ cell_word s words j k
  pub floats-kept : (j : ℕ) → j < cell.number → vec_from floats' (12 * s.slots + 4 * j) ≡ vec_from floats (12 * s.slots + 4 * j)

-- `fill_cell`: the number of faces, or the first refusal of 13 and 14
pub data FillCellExit (d : ℕ) (ps : List Vec3) (ws : List ℕ) (cell : NewCell) (s : Sizes) (words words' : List ℕ) (floats floats' : List Float) : Refusable ℕ → Type 0 where
  filled : (n : ℕ) → add_faces d ps ws cell (faces_in s words floats) ≡ Ok (cell_faces_in (with_faces s n) words' floats' cell.first cell.head.faces)
      → StoredCell s words words' floats floats' cell n → FillCellExit d ps ws cell s words words' floats floats' (Ok n)
  refusing : (k : Refusal) → add_faces d ps ws cell (faces_in s words floats) ≡ Err k → FillCellExit d ps ws cell s words words' floats floats' (Err k)

-- `new_cell`: cell i with the average of its points, or refusal 11 or 12; 3 where the definitions are wrong
pub data NewCellExit (d : ℕ) (ps : List Vec3) (ws : List ℕ) (i : ℕ) (p : Progress) : Refusable (NewCell × Cursor) → Type 0 where
  cell : (h : Head) (next : Cursor) (v : Vec3) → Ok (h, next) ≡ step_at ws p.at → checked d ps (definition_at ws h.at) ≡ Ok v
      → NewCellExit d ps ws i p (Ok ((record { number = i; reference = v; head = h; first = p.first }), next))
  refusing : (h : Head) (next : Cursor) (k : Refusal) → Ok (h, next) ≡ step_at ws p.at → checked d ps (definition_at ws h.at) ≡ Err k
      → NewCellExit d ps ws i p (Err k)
  wrong : (k : Refusal) → Err k ≡ step_at ws p.at → NewCellExit d ps ws i p (Err k)

-- ---- all cells

-- i cells stand in the area; what is left, added to them, gives the whole
pub record CellsSoFar (d : ℕ) (ps : List Vec3) (ws : List ℕ) (defs : List Definition) (s : Sizes) (words : List ℕ) (floats : List Float) (i : ℕ) (p : Progress) : Type 0 where
  pub chained : Chained (with_faces s p.faces) words
  pub behind : p.faces ≤ p.first
  pub counted : fold add_face_count p.first (drop i defs) ≡ s.slots
  pub left : Words.definitions (s.cells - i) (drop p.at ws) ≡ Ok (drop i defs)
  pub lists : FaceLists ws s words i p.first
  pub rest : steps (add_cell d ps) (record { faces = faces_in (with_faces s p.faces) words floats; cells = partial_cells_in ws s words floats i }) (drop i defs) ≡ partial_mesh d ps defs

-- the definitions that were read, or none
unfoldable pub read : Refusable (List Definition) → List Definition
read (Err r) = []
read (Ok defs) = defs

-- the definitions of all cells, in the words
abbrev pub defined_in : Sizes → List ℕ → List Definition
defined_in s ws = read (Words.definitions s.cells ws)

-- what the caller of `add_cells` shows; "At most .. 1,048,576 words"
pub record AddCellsEntry (case : List ℕ) (points : ℕ) (ws words : List ℕ) (floats : List Float) (s : Sizes) : Type 0 where
  pub lent-words : LentWords s words
  pub lent-floats : LentFloats s floats
  pub empty : s.faces ≡ 0
  pub points-few : points ≤ most_points
  pub points-there : 24 * points ≤ length case
  pub words-few : length ws ≤ most_words
  pub defs : List Definition
  pub right : Words.definitions s.cells ws ≡ Ok defs
  pub slots : s.slots ≡ faces_counted defs

-- what one cell more needs
pub record AddCellEntry (d : ℕ) (ps : List Vec3) (case : List ℕ) (points : ℕ) (ws words : List ℕ) (floats : List Float) (s : Sizes) (i : ℕ) (p : Progress) : Type 0 where
  pub addable : AddCellsEntry case points ws words floats s
  pub cell : i < s.cells
  pub filled : CellsSoFar d ps ws (defined_in s ws) s words floats i p

-- `add_cell`: one cell more, or the first refusal of all
pub data AddCellExit (d : ℕ) (ps : List Vec3) (ws : List ℕ) (s : Sizes) (words : List ℕ) (floats : List Float) (i : ℕ) : Refusable Progress → Type 0 where
  next : (q : Progress) → CellsSoFar d ps ws (defined_in s ws) s words floats (i + 1) q → AddCellExit d ps ws s words floats i (Ok q)
  refusing : (k : Refusal) → partial_mesh d ps (defined_in s ws) ≡ Err k → AddCellExit d ps ws s words floats i (Err k)
