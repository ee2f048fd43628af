-- The contracts of the walker: positions among the words ws, in the place of the words that are left.
-- `listed`, `list_at`, `skipped`: a counted run at a position.
-- `KindAt`, `SolidAt`: which record stands at a position.
-- `first_of`, `head_of`, `cursor_at`: a record's head and a position.
-- `stepped`, `step_at`: the record at a position. `walked`, `walked_faces`: all of them.
-- `read_of`, `definition_at`, `face_at`: what stands there. `HeadAt`: its head.
-- `HeadTo`, `Looks`, `RunExit`: records that look like the one before them.
use Rattle.std.specs.Prelude.{ℕ, ◌+◌, ◌-◌, ◌*◌, ◌<◌, ◌≤◌, ◌≡◌, List, [], ◌++◌, length, get_or, drop, Some, None, Ok, Err}
use Rattle.arith.specs.All.{All}
use Rattle.reading.specs.Result.{Refusable, ◌>>=◌}
use Rattle.case_definitions.specs.Faces.{solid, Definition, polygon, polyhedron, face_count, faces_counted, faces_of}
use Rattle.case_definitions.specs.Definitions.{Taken, numbers, counted, made, definition, definitions}
use Rattle.case_definitions.specs.declared.Cursor.{Cursor}
use Rattle.case_definitions.specs.declared.Head.{Head}
use Rattle.std.specs.declared.option.Option.{Option}

-- the count of a list that was read, or that it was refused
unfoldable pub listed : Refusable (Taken (List ℕ)) → Option ℕ
listed (Err r) = None
listed (Ok w) = Some (length w.read)

-- a count of at most `limit` at a position, with as many words after it
unfoldable pub list_at : List ℕ → ℕ → ℕ → Option ℕ
list_at ws at limit = listed (counted limit numbers (drop at ws))

-- the position after what was read
unfoldable pub skipped : {A : Type 0} → List ℕ → Refusable (Taken A) → Refusable ℕ
skipped ws (Err r) = Err r
skipped ws (Ok w) = Ok (length ws - length w.left)

-- the word at a position is the kind word `kind`
pub record KindAt (ws : List ℕ) (at kind : ℕ) : Type 0 where
  pub there : at < length ws
  pub small : at < 4611686018427387904
  pub same : get_or ws at 0 ≡ kind

-- and the kind has so many point numbers and faces
pub record SolidAt (ws : List ℕ) (at kind count faces : ℕ) : Type 0 where
  pub at-kind : KindAt ws at kind
  pub places : List (List ℕ)
  pub reads : definition (drop at ws) ≡ made (solid places) (numbers count (drop (at + 1) ws))
  pub all : faces ≡ length places
  pub few : count ≤ 8

-- where a record's point numbers, or a polyhedron's faces, start: after the kind word, and after the count if the kind has one
unfoldable pub first_of : ℕ → Definition → ℕ
first_of at (polygon l) = at + 2
first_of at (solid places l) = at + 1
first_of at (polyhedron faces) = at + 2

-- the head of the record d, whose kind word is at `at`
unfoldable pub head_of : ℕ → ℕ → Definition → Head
head_of kind at d = record { kind = kind; faces = face_count d; at = at; first = first_of at d }

-- where the words `left` start, which are the last of ws
unfoldable pub cursor_at : List ℕ → List ℕ → Cursor
cursor_at ws left = record { at = length ws - length left }

-- refusal 3, or a record and what is left
unfoldable pub stepped : List ℕ → ℕ → Refusable (Taken Definition) → Refusable (Head × Cursor)
stepped ws at (Err r) = Err r
stepped ws at (Ok w) = Ok ((head_of (get_or ws at 0) at w.read), (cursor_at ws w.left))

-- the record at a position
unfoldable pub step_at : List ℕ → ℕ → Refusable (Head × Cursor)
step_at ws at = stepped ws at (definition (drop at ws))

-- F, or the refusal
unfoldable pub walked : Refusable (List Definition) → Refusable ℕ
walked (Err r) = Err r
walked (Ok ds) = Ok (faces_counted ds)

-- what each case of the answer stands for
unfoldable pub walked_faces : Refusable ℕ → Refusable ℕ
walked_faces (Ok f) = Ok f
walked_faces (Err r) = Err r

-- ---- the faces of one record

-- what a right record was read as
unfoldable pub read_of : Refusable (Taken Definition) → Definition
read_of (Err r) = polygon []
read_of (Ok w) = w.read

-- the definition at a position
unfoldable pub definition_at : List ℕ → ℕ → Definition
definition_at ws at = read_of (definition (drop at ws))

-- its face k
unfoldable pub face_at : List ℕ → ℕ → ℕ → List ℕ
face_at ws at k = get_or (faces_of (definition_at ws at)) k []

-- h is the head of a right record
pub record HeadAt (ws : List ℕ) (h : Head) : Type 0 where
  pub next : Cursor
  pub step : step_at ws h.at ≡ Ok (h, next)

-- ---- records that look alike

-- h is the head of a right record that ends at `next`
pub record HeadTo (ws : List ℕ) (h : Head) (next : ℕ) : Type 0 where
  pub step : step_at ws h.at ≡ Ok (h, (record { at = next }))

-- the record from p on has room for `size` words, the kind word of the one at `from` and, where that is a polygon, its count
pub record Looks (ws : List ℕ) (from size p : ℕ) : Type 0 where
  pub room : p + size ≤ length ws
  pub kind : get_or ws p 0 ≡ get_or ws from 0
  pub count : get_or ws from 0 ≡ 0 → get_or ws (p + 1) 0 ≡ get_or ws (from + 1) 0

-- r records from `at` on are right, each as long as the one from `from` to `at` and with as many faces;
-- with them `definitions` goes on behind them
pub record RunExit (ws : List ℕ) (from at left faces r : ℕ) : Type 0 where
  pub few : r ≤ left
  pub within : at + r * (at - from) ≤ length ws
  pub read : List Definition
  pub long : length read ≡ r
  pub alike : All (λ d. face_count d ≡ faces) read
  pub rest : (m : ℕ) → definitions (r + m) (drop at ws) ≡ (definitions m (drop (at + r * (at - from)) ws) >>= λ ds. Ok (read ++ ds))
