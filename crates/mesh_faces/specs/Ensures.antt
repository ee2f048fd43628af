-- What the use of a face by a cell needs and leaves.
-- `add` and `settle`: `AddEntry`. `words_after`, `floats_after`: the area after an answer. `add`: `AddExit`.
-- `faces_after`, `stored_at`: the number of faces after it, and of the face that was stored to. `settle`: `SettleExit`.
-- `with_faces`: the sizes with another number of faces. `use_face`: `UseFaceEntry`, `UseFaceExit`.
use Rattle.std.specs.Prelude.{ℕ, ◌+◌, ◌*◌, ◌<◌, ◌≤◌, ◌≡◌, List, [], ◌∷◌, ◌++◌, length, drop, set, Float}
use Rattle.std.proofs.lemmas.List.Edits.{sets}
use Rattle.arith.specs.Limits.{most_cells, most_words}
use Rattle.arith.specs.Lists.{sorted}
use Rattle.mesh_area.specs.Layout.{faces_in, LentWords, LentFloats}
use Rattle.mesh_area.specs.declared.Sizes.{Sizes}
use Rattle.mesh_geometry.specs.declared.FaceGeometry.{FaceGeometry}
use Rattle.mesh_face_table.specs.Records.{face_words_in, table_in, head_in, new_face_at, floats_of}
use Rattle.mesh_face_table.specs.Chains.{last, bucket_of, key_at, Chains, Chained}
use Rattle.mesh_faces.specs.Table.{new_face, use_face}
use Rattle.mesh_faces.specs.declared.Added.{Added}
use Rattle.mesh_faces.specs.declared.Added.TheVariants.{New, Second, Third}

-- what adding a face needs
pub record AddEntry (w : List ℕ) (fl : List Float) (slots n : ℕ) (vertices : List ℕ) (cell : ℕ) : Type 0 where
  pub chains : Chains w slots n
  pub floats : 12 * slots ≤ length fl
  pub space : n < slots
  pub slots-few : slots ≤ most_words
  pub cells-few : cell < most_cells
  pub short : length vertices ≤ 8

-- the words after the answer: a new face is stored as the last of its bucket, or a face's second cell, + 1, or nothing
unfoldable pub words_after : Added → ℕ → List ℕ → ℕ → List ℕ → List ℕ
words_after (New f) slots vertices cell w =
    let b = bucket_of slots vertices in
    set (new_face_at w (12 * f) vertices cell (head_in w slots b)) (12 * slots + b) (f + 1)
words_after (Second f) slots vertices cell w = set w (12 * f + 10) (cell + 1)
words_after Third slots vertices cell w = w

-- the floats: what was measured of a new face
unfoldable pub floats_after : Added → FaceGeometry → List Float → List Float
floats_after (New f) m fl = sets fl (12 * f) (floats_of m)
floats_after (Second f) m fl = fl
floats_after Third m fl = fl

-- one face more
pub record AddExit (w w' : List ℕ) (fl fl' : List Float) (slots n : ℕ) (vertices : List ℕ) (m : FaceGeometry) (cell : ℕ) : Type 0 where
  pub faces : table_in w' fl' (n + 1) ≡ table_in w fl n ++ new_face cell vertices m ∷ []
  pub chains : last (key_at (face_words_in w) (sorted vertices)) n ≡ 0 → Chains w' slots (n + 1)
  pub words_left : w' ≡ words_after (New n) slots vertices cell w
  pub floats-left : fl' ≡ floats_after (New n) m fl

-- how many faces there are after the answer
abbrev pub faces_after : Added → ℕ → ℕ
faces_after (New f) n = n + 1
faces_after (Second f) n = n
faces_after Third n = n

-- the number of the face that was stored to
abbrev pub stored_at : Added → ℕ
stored_at (New f) = f
stored_at (Second f) = f
stored_at Third = 0

-- what the use of a face leaves
pub record SettleExit (w w' : List ℕ) (fl fl' : List Float) (slots n : ℕ) (vertices : List ℕ) (m : FaceGeometry) (cell : ℕ) (r : Added) : Type 0 where
  pub answer : r ≡ (use_face cell vertices m (table_in w fl n)).answer
  pub faces : table_in w' fl' (faces_after r n) ≡ (use_face cell vertices m (table_in w fl n)).faces
  pub chains : Chains w' slots (faces_after r n)
  pub words_left : w' ≡ words_after r slots vertices cell w
  pub floats-left : fl' ≡ floats_after r m fl
  pub low : stored_at r < slots

-- ---- the public contracts

-- the sizes with another number of faces
abbrev pub with_faces : Sizes → ℕ → Sizes
with_faces s n = record { slots = s.slots; faces = n; cells = s.cells }

-- a face with these numbers can be used by a cell
pub record UseFaceEntry (s : Sizes) (words : List ℕ) (floats : List Float) (vertices : List ℕ) (cell : ℕ) : Type 0 where
  pub lent-words : LentWords s words
  pub lent-floats : LentFloats s floats
  pub chained : Chained s words
  pub space : s.faces < s.slots
  pub short : length vertices ≤ 8
  pub cells-few : cell < most_cells

-- the answer, the table by its definition, and every word and float of the area: those from 13 F and 12 F on are as they were
pub record UseFaceExit (s : Sizes) (words words' : List ℕ) (floats floats' : List Float) (vertices : List ℕ) (m : FaceGeometry) (cell : ℕ) (r : Added) : Type 0 where
  pub answer : r ≡ (use_face cell vertices m (faces_in s words floats)).answer
  pub faces : faces_in (with_faces s (faces_after r s.faces)) words' floats' ≡ (use_face cell vertices m (faces_in s words floats)).faces
  pub chained : Chained (with_faces s (faces_after r s.faces)) words'
  pub words_left : words' ≡ words_after r s.slots vertices cell words
  pub floats-left : floats' ≡ floats_after r m floats
  pub words-kept : drop (13 * s.slots) words' ≡ drop (13 * s.slots) words
  pub floats-kept : drop (12 * s.slots) floats' ≡ drop (12 * s.slots) floats
