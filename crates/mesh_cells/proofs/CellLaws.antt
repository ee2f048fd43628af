-- One cell, and all of them: what the parts of `fill_cell`, `add_cell` and `fill_cells` leave, put together. Assumes nothing.
use Prim.Native.Nat.{ℕ, zero, suc, ◌+◌, ◌-◌, ◌*◌, ◌≤◌, ◌<◌}
use native.Mathlib.Decide.{ℕ_discrete}
use native.Mathlib.Nat.{sub-zero}
use native.Mathlib.Omega.{arith}
use mathlib.Core.Path.{◌≡◌, refl, ap, ap₂, sym, ◌∙◌}
use mathlib.Core.Bool.{Bool, true, false}
use mathlib.Core.List.{List, [], ◌∷◌, ◌++◌}
use mathlib.Core.Logic.{inl}
use lib.ListN.{length, get_or, take, drop, drop_of_length-le}
use lib.Seq.{get_or-take, take-take}
use lib.Ieee.{Float, nan}
use Rattle.arith.specs.Lists.{fold}
use Rattle.arith.specs.Records.{tab, puts}
use Rattle.arith.specs.declared.Vec3.{Vec3}
use Rattle.arith.proofs.ListLaws.{foldl-next}
use Rattle.arith.proofs.RecordLaws.{length-tab, tab-next, tab-same, length-puts, take-puts, get_or-puts-out, get_or-puts-at}
use Rattle.reading.specs.Result.{◌>>=◌, refuse, steps, Refusable}
use Rattle.reading.proofs.ResultLaws.{steps_next, steps-refused, ok-pair}
use Rattle.case_definitions.specs.Faces.{Definition, polygon, faces_of, face_count, add_face_count, faces_counted}
use Rattle.case_definitions.specs.Definitions.{definition, definitions}
use Rattle.case_definitions.specs.Ensures.{read_of, definition_at, head_of, step_at}
use Rattle.case_definitions.specs.declared.Head.{Head}
use Rattle.case_definitions.specs.declared.Cursor.{Cursor}
use Rattle.case_definitions.proofs.RecordLaws.{steps-to}
use Rattle.case_faces.proofs.FaceLaws.{headed}
use Rattle.case_definitions.proofs.Walking.{length-definitions, never-wrong, CellRead, cell-read, head-faces}
use Rattle.mesh_area.specs.declared.Sizes.{Sizes}
use Rattle.mesh_area.specs.Layout.{list_at, vec_from, faces_in, mesh_words}
use Rattle.mesh_face_table.specs.Chains.{Chained}
use Rattle.mesh_face_table.proofs.RecordParts.{read_count}
use Rattle.mesh_faces.specs.Ensures.{with_faces}
use Rattle.mesh_faces.proofs.AreaLaws.{chained-kept, faces-kept}
use Rattle.mesh_points.specs.Collect.{wrong_kind, missing, checked}
use Rattle.mesh_cell_parts.specs.Parts.{add_face_of}
use Rattle.mesh_cell_parts.specs.Ensures.{PutCellExit}
use Rattle.mesh_cell_parts.specs.declared.NewCell.{NewCell}
use Rattle.mesh_cells.specs.Cells.{PartialCell, PartialMesh, add_cell, partial_mesh}
use Rattle.mesh_cells.specs.Ensures as Ensures
use Rattle.mesh_cells.specs.Partial.{cell_word, partial_cell_in, partial_cells_in}
use Rattle.mesh_cells.specs.Ensures.{FaceLists, AddCellsExit, cell_faces_in, add_faces, ListGrowth, AddFacesEntry, AddFacesExit, FillCellEntry, StoredCell, FillCellExit, NewCellExit, CellsSoFar, read, defined_in, AddCellsEntry, AddCellEntry, AddCellExit}
use Rattle.mesh_cells.specs.declared.Progress.{Progress}
use Rattle.mesh_cells.proofs.FaceLaws.{kept_at, lent-sized, lent-floats-sized}
use Rattle.std.specs.Prelude.{Ok, Err}
use Rattle.refusal.specs.declared.Refusal.{Refusal}

-- ---- `fill_cell`

-- what stands before a stored run of at least b stays
front-puts : {A : Type 0} (l l' : List A) (b at : ℕ) (vs : List A) → l' ≡ puts l at vs → b ≤ at → take b l' ≡ take b l
front-puts l l' b at vs e h =
    sym (take-take b at l' h) ∙ ap (take b) (ap (take at) e ∙ take-puts l at vs) ∙ take-take b at l h

module _ (ws : List ℕ) (s : Sizes) (words : List ℕ) (floats : List Float) (cell : NewCell) (rd : FillCellEntry ws s words floats cell)
    (words₁ : List ℕ) (floats₁ : List Float) (at f k : ℕ) (put : PutCellExit s words words₁ floats floats₁ cell.number at f k cell.reference) where
  long-words : length words₁ ≡ length words
  long-words = ap length put.words-put ∙ length-puts words (16 * s.slots + 8 * cell.number) (at ∷ f ∷ k ∷ 0 ∷ [])

  long-floats : length floats₁ ≡ length floats
  long-floats = ap length put.floats-put ∙ length-puts floats (12 * s.slots + 4 * cell.number) (cell.reference.x ∷ cell.reference.y ∷ cell.reference.z ∷ [])

  front-words : take (13 * s.slots) words₁ ≡ take (13 * s.slots) words
  front-words = front-puts words words₁ (13 * s.slots) (16 * s.slots + 8 * cell.number) (at ∷ f ∷ k ∷ 0 ∷ []) put.words-put (omega arith)

  front-floats : take (12 * s.slots) floats₁ ≡ take (12 * s.slots) floats
  front-floats = front-puts floats floats₁ (12 * s.slots) (12 * s.slots + 4 * cell.number) (cell.reference.x ∷ cell.reference.y ∷ cell.reference.z ∷ []) put.floats-put (omega arith)

  pub cell-faces : AddFacesEntry ws s words₁ floats₁ cell
  cell-faces =
      record {
        headed = rd.headed;
        lent-words = lent-sized s words words₁ s.faces rd.lent-words long-words rd.lent-words.few-faces;
        lent-floats = lent-floats-sized s floats floats₁ s.faces rd.lent-floats long-floats rd.lent-floats.few-faces;
        chained = chained-kept s words words₁ rd.lent-words long-words rd.chained front-words;
        behind = rd.behind;
        room = rd.room;
        cells-few = omega (arith, rd.below, rd.lent-words.few-cells);
      }

  word-put : (j : ℕ) → j < 4 → get_or words₁ (16 * s.slots + 8 * cell.number + j) 0 ≡ get_or (at ∷ f ∷ k ∷ 0 ∷ []) j 0
  word-put j b =
      ap (λ (l : List ℕ). get_or l (16 * s.slots + 8 * cell.number + j) 0) put.words-put
      ∙ get_or-puts-at words (16 * s.slots + 8 * cell.number) (at ∷ f ∷ k ∷ 0 ∷ []) j 0 b (omega (arith, rd.lent-words.long, rd.below))

  word-before : (j : ℕ) → j < 16 * s.slots + 8 * cell.number → get_or words₁ j 0 ≡ get_or words j 0
  word-before j b =
      ap (λ (l : List ℕ). get_or l j 0) put.words-put ∙ get_or-puts-out words (16 * s.slots + 8 * cell.number) (at ∷ f ∷ k ∷ 0 ∷ []) j 0 (inl b)

  float-put : (j : ℕ) → j < 3 → get_or floats₁ (12 * s.slots + 4 * cell.number + j) nan ≡ get_or (cell.reference.x ∷ cell.reference.y ∷ cell.reference.z ∷ []) j nan
  float-put j b =
      ap (λ (l : List Float). get_or l (12 * s.slots + 4 * cell.number + j) nan) put.floats-put
      ∙ get_or-puts-at floats (12 * s.slots + 4 * cell.number) (cell.reference.x ∷ cell.reference.y ∷ cell.reference.z ∷ []) j nan b (omega (arith, rd.lent-floats.long, rd.below))

  float-before : (j : ℕ) → j < 12 * s.slots + 4 * cell.number → get_or floats₁ j nan ≡ get_or floats j nan
  float-before j b =
      ap (λ (l : List Float). get_or l j nan) put.floats-put
      ∙ get_or-puts-out floats (12 * s.slots + 4 * cell.number) (cell.reference.x ∷ cell.reference.y ∷ cell.reference.z ∷ []) j nan (inl b)

  module _ (words' : List ℕ) (floats' : List Float) (n : ℕ) (l : ListGrowth s words₁ words' floats₁ floats' cell.first cell.head.faces n) (ea : at ≡ cell.head.at) (ef : f ≡ cell.first) (ek : k ≡ cell.head.faces) where
    high : (j : ℕ) → 16 * s.slots ≤ j → get_or words' j 0 ≡ get_or words₁ j 0
    high j b =
        let e : 13 * s.slots + (j - 13 * s.slots) ≡ j = omega arith in
        rw e at (l.after (j - 13 * s.slots) (omega (arith, rd.room)))

    float-high : (j : ℕ) → 12 * s.slots ≤ j → get_or floats' j nan ≡ get_or floats₁ j nan
    float-high j b =
        let e : 12 * s.slots + (j - 12 * s.slots) ≡ j = omega arith in
        rw e at (kept_at floats₁ floats' (12 * s.slots) (j - 12 * s.slots) nan l.floats-kept)

    stored-word : (j : ℕ) → j < 4 → cell_word s words' cell.number j ≡ get_or (at ∷ f ∷ k ∷ 0 ∷ []) j 0
    stored-word j b = high (16 * s.slots + 8 * cell.number + j) (omega arith) ∙ word-put j b

    stored : StoredCell s words words' floats floats' cell n
    unfolding vec_from
    stored =
        let zero-first : 12 * s.slots + 4 * cell.number + 0 ≡ 12 * s.slots + 4 * cell.number = omega arith in
        record {
          chained = l.chained;
          behind = l.behind;
          position = stored-word 0 (omega arith) ∙ ea;
          start = stored-word 1 (omega arith) ∙ ef;
          count = stored-word 2 (omega arith) ∙ ek;
          unlinked = stored-word 3 (omega arith);
          averaged =
              rw (float-high (12 * s.slots + 4 * cell.number) (omega arith), float-high (12 * s.slots + 4 * cell.number + 1) (omega arith), float-high (12 * s.slots + 4 * cell.number + 2) (omega arith))
              (rw (rw zero-first at (float-put 0 (omega arith)), float-put 1 (omega arith), float-put 2 (omega arith)));
          lists-kept = λ j b. l.before j b ∙ word-before (13 * s.slots + j) (omega (arith, rd.room));
          cells-kept = λ j m b c. high (16 * s.slots + 8 * j + m) (omega arith) ∙ word-before (16 * s.slots + 8 * j + m) (omega arith);
          floats-kept = λ j b.
              rw (float-high (12 * s.slots + 4 * j) (omega arith), float-high (12 * s.slots + 4 * j + 1) (omega arith), float-high (12 * s.slots + 4 * j + 2) (omega arith))
              (rw (float-before (12 * s.slots + 4 * j) (omega arith), float-before (12 * s.slots + 4 * j + 1) (omega arith), float-before (12 * s.slots + 4 * j + 2) (omega arith)));
        }

  pub cell-filled : (d : ℕ) (ps : List Vec3) (words' : List ℕ) (floats' : List Float) (r : Refusable ℕ) → at ≡ cell.head.at → f ≡ cell.first → k ≡ cell.head.faces
      → AddFacesExit d ps ws cell s words₁ words' floats₁ floats' r → FillCellExit d ps ws cell s words words' floats floats' r
  cell-filled d ps words' floats' r ea ef ek (Ensures.AddFacesExit.added n e l) =
      let same = faces-kept s words words₁ rd.lent-words long-words rd.chained front-words floats floats₁ front-floats in
      Ensures.FillCellExit.filled n (rw same at e) (stored words' floats' n l ea ef ek)
  cell-filled d ps words' floats' r ea ef ek (Ensures.AddFacesExit.refusing j e) =
      let same = faces-kept s words words₁ rd.lent-words long-words rd.chained front-words floats floats₁ front-floats in
      Ensures.FillCellExit.refusing j (rw same at e)

-- ---- the partial cells in the area, one more

-- no list reaches past the end
lists-below : (ws : List ℕ) (s : Sizes) (words : List ℕ) (n end : ℕ) → FaceLists ws s words n end → (left j : ℕ) → j + suc left ≡ n → cell_word s words j 1 + cell_word s words j 2 ≤ end
lists-below ws s words n end l zero j e = let w = l.last j (omega arith) in omega arith
lists-below ws s words n end l (suc left) j e =
    let w = lists-below ws s words n end l left (j + 1) (omega arith) in
    let v = l.next j (omega arith) in
    omega arith

module _ (ws : List ℕ) (s : Sizes) (words words' : List ℕ) (floats floats' : List Float) (cell : NewCell) (n m : ℕ)
    (l : FaceLists ws s words cell.number cell.first) (c : StoredCell (with_faces s m) words words' floats floats' cell n) where
  draft-kept : (j : ℕ) → j < cell.number → partial_cell_in ws s words' floats' j ≡ partial_cell_in ws s words floats j
  unfolding partial_cell_in list_at
  draft-kept j b =
      let below = lists-below ws s words cell.number cell.first l (cell.number - (j + 1)) j (omega arith) in
      let list : tab (λ k. get_or words' (13 * s.slots + cell_word s words j 1 + k) 0) (cell_word s words j 2) ≡ tab (λ k. get_or words (13 * s.slots + cell_word s words j 1 + k) 0) (cell_word s words j 2) =
      tab-same _ _ (cell_word s words j 2)
      (λ k w.
      let e : 13 * s.slots + (cell_word s words j 1 + k) ≡ 13 * s.slots + cell_word s words j 1 + k = omega arith in
      rw e at (c.lists-kept (cell_word s words j 1 + k) (omega arith)))
      in
      rw (c.cells-kept j 0 b (omega arith), c.cells-kept j 1 b (omega arith), c.cells-kept j 2 b (omega arith), c.floats-kept j b, list)

  drafts-next : partial_cells_in ws s words' floats' (cell.number + 1)
      ≡ partial_cells_in ws s words floats cell.number ++ record { definition = definition_at ws cell.head.at; faces = list_at words' (13 * s.slots + cell.first) cell.head.faces; reference = cell.reference } ∷ []
  unfolding partial_cells_in partial_cell_in definition_at
  drafts-next =
      tab-next _ cell.number
      ∙ ap₂ (λ (a : List PartialCell) (b : PartialCell). a ++ b ∷ []) (tab-same _ _ cell.number draft-kept) (rw (c.position, c.start, c.count, c.averaged))

  -- cell j is the new one or one before it
  module _ (few : cell.head.faces ≤ 24) (all : cell.head.faces ≡ length (faces_of (definition_at ws cell.head.at))) where
    first-list : Dec (cell.number ≡ 0) → cell_word s words' 0 1 ≡ 0
    first-list (yes e) = rw e at c.start ∙ l.none e
    first-list (no ne) = c.cells-kept 0 1 (omega arith) (omega arith) ∙ l.first (omega arith)

    next-list : (j : ℕ) → j + 1 < cell.number + 1 → Dec (j + 1 ≡ cell.number) → cell_word s words' (j + 1) 1 ≡ cell_word s words' j 1 + cell_word s words' j 2
    next-list j b (yes e) =
        let q = c.start in
        let q' : cell_word s words' (j + 1) 1 ≡ cell.first = rw e q in
        q' ∙ l.last j e ∙ ap₂ (λ (a b : ℕ). a + b) (sym (c.cells-kept j 1 (omega arith) (omega arith))) (sym (c.cells-kept j 2 (omega arith) (omega arith)))
    next-list j b (no ne) =
        c.cells-kept (j + 1) 1 (omega arith) (omega arith)
        ∙ l.next j (omega arith)
        ∙ ap₂ (λ (a b : ℕ). a + b) (sym (c.cells-kept j 1 (omega arith) (omega arith))) (sym (c.cells-kept j 2 (omega arith) (omega arith)))

    last-list : (j : ℕ) → j + 1 ≡ cell.number + 1 → cell.first + cell.head.faces ≡ cell_word s words' j 1 + cell_word s words' j 2
    last-list j e = let q : j ≡ cell.number = omega arith in rw (q, c.start, c.count)

    few-in : (j : ℕ) → j < cell.number + 1 → Dec (j ≡ cell.number) → cell_word s words' j 2 ≤ 24
    few-in j b (yes e) = rw (e, c.count) few
    few-in j b (no ne) = rw (c.cells-kept j 2 (omega arith) (omega arith)) (l.few j (omega arith))

    counts-in : (j : ℕ) → j < cell.number + 1 → Dec (j ≡ cell.number) → cell_word s words' j 2 ≡ length (faces_of (read_of (definition (drop (cell_word s words' j 0) ws))))
    unfolding definition_at partial_cell_in
    counts-in j b (yes e) = rw (e, c.count, c.position) all
    counts-in j b (no ne) =
        rw (c.cells-kept j 2 (omega arith) (omega arith), c.cells-kept j 0 (omega arith) (omega arith)) (l.counts j (omega arith))

    lonely-in : (j : ℕ) → j < cell.number + 1 → Dec (j ≡ cell.number) → cell_word s words' j 3 ≡ 0
    lonely-in j b (yes e) = rw e c.unlinked
    lonely-in j b (no ne) = c.cells-kept j 3 (omega arith) (omega arith) ∙ l.unlinked j (omega arith)

    lists-next : FaceLists ws s words' (cell.number + 1) (cell.first + cell.head.faces)
    unfolding partial_cell_in
    lists-next =
        record {
          first = λ b. first-list (ℕ_discrete cell.number 0);
          next = λ j b. next-list j b (ℕ_discrete (j + 1) cell.number);
          last = last-list;
          none = λ e. absurd (omega arith);
          few = λ j b. few-in j b (ℕ_discrete j cell.number);
          counts = λ j b. counts-in j b (ℕ_discrete j cell.number);
          unlinked = λ j b. lonely-in j b (ℕ_discrete j cell.number);
        }

-- ---- `add_cell`

-- what was counted is counted
counted-least : (n : ℕ) (l : List Definition) → n ≤ fold add_face_count n l
unfolding fold add_face_count
counted-least n [] = omega arith
counted-least n (d ∷ l) = let w = counted-least (n + face_count d) l in omega arith

-- refusals 11 and 12, then the faces
cell-checked : (d : ℕ) (ps : List Vec3) (t : PartialMesh) (def : Definition) → add_cell d ps t def
    ≡ (checked d ps def >>= λ v. steps (add_face_of d ps (length t.cells) v) (record { faces = t.faces; numbers = [] }) (faces_of def) >>= λ g.
    Ok (record { faces = g.faces; cells = t.cells ++ record { definition = def; faces = g.numbers; reference = v } ∷ [] }))
unfolding add_cell checked refuse ◌>>=◌
cell-checked d ps t def = by (wrong_kind d def) (missing ps def) refl refl
  where
    by : (a b : Bool) → wrong_kind d def ≡ a → missing ps def ≡ b → add_cell d ps t def
        ≡ (checked d ps def >>= λ v. steps (add_face_of d ps (length t.cells) v) (record { faces = t.faces; numbers = [] }) (faces_of def) >>= λ g.
        Ok (record { faces = g.faces; cells = t.cells ++ record { definition = def; faces = g.numbers; reference = v } ∷ [] }))
    by true b ea eb = rw ea
    by false true ea eb = rw (ea, eb)
    by false false ea eb = rw (ea, eb)

-- the definitions are those that were read
pub defined : (case : List ℕ) (points : ℕ) (ws words : List ℕ) (floats : List Float) (s : Sizes) → AddCellsEntry case points ws words floats s → definitions s.cells ws ≡ Ok (defined_in s ws)
unfolding read
defined case points ws words floats s a = a.right ∙ ap Ok (sym (ap read a.right))

module _ (d : ℕ) (ps : List Vec3) (ws : List ℕ) (i : ℕ) (p : Progress) where
  pub found-wrong : (k : Refusal) → Err k ≡ step_at ws p.at → NewCellExit d ps ws i p (Err k)
  found-wrong k e = Ensures.NewCellExit.wrong k e

  module _ (h : Head) (c : Cursor) (e : Ok (h, c) ≡ step_at ws p.at) (r : Refusable Vec3) (er : r ≡ checked d ps (definition_at ws h.at)) where
    pub found-refused : (k : Refusal) → r ≡ Err k → NewCellExit d ps ws i p (Err k)
    found-refused k q = Ensures.NewCellExit.refusing h c k e (sym er ∙ q)

    pub found-cell : (v : Vec3) → r ≡ Ok v → NewCellExit d ps ws i p (Ok ((record { number = i; reference = v; head = h; first = p.first }), c))
    found-cell v q = Ensures.NewCellExit.cell h c v e (sym er ∙ q)

module _ (d : ℕ) (ps : List Vec3) (case : List ℕ) (points : ℕ) (ws words : List ℕ) (floats : List Float) (s : Sizes) (i : ℕ) (p : Progress)
    (t : AddCellEntry d ps case points ws words floats s i p) where
  abbrev defs : List Definition
  defs = defined_in s ws

  many : length (defined_in s ws) ≡ s.cells
  many = length-definitions s.cells ws (defined_in s ws) (defined case points ws words floats s t.addable)

  there : i < length (defined_in s ws)
  there = omega (arith, many, t.cell)

  never : (k : Refusal) → Err k ≡ step_at ws p.at → ⊥
  never k e = never-wrong ws s.cells i p.at (defined_in s ws) t.cell many t.filled.left k e

  module _ (h : Head) (c : Cursor) (e : Ok (h, c) ≡ step_at ws p.at) where
    abbrev def : Definition
    def = get_or (defined_in s ws) i (polygon [])

    cell : CellRead ws s.cells i (defined_in s ws) h p.at c.at (polygon [])
    cell = cell-read ws s.cells i p.at (defined_in s ws) t.cell many t.filled.left h c (polygon []) e

    position : h.at ≡ p.at
    unfolding head_of
    position = ap (λ (x : Head). x.at) cell.head

    count : h.faces ≡ face_count (get_or (defined_in s ws) i (polygon []))
    unfolding head_of
    count = ap (λ (x : Head). x.faces) cell.head

    same-def : get_or (defined_in s ws) i (polygon []) ≡ definition_at ws h.at
    same-def = cell.same ∙ ap (definition_at ws) (sym position)

    counted : fold add_face_count (p.first + h.faces) (drop (i + 1) (defined_in s ws)) ≡ s.slots
    unfolding add_face_count
    counted = rw count (sym (foldl-next (defined_in s ws) i (polygon []) there add_face_count p.first) ∙ t.filled.counted)

    room : p.first + h.faces ≤ s.slots
    room = let w = counted-least (p.first + h.faces) (drop (i + 1) (defined_in s ws)) in omega (arith, counted)

    -- the cells so far
    abbrev partial : PartialMesh
    partial = record { faces = faces_in (with_faces s p.faces) words floats; cells = partial_cells_in ws s words floats i }

    so-many : length (partial_cells_in ws s words floats i) ≡ i
    unfolding partial_cells_in
    so-many = length-tab (partial_cell_in ws s words floats) i

    refusing : (k : Refusal) → add_cell d ps partial (get_or (defined_in s ws) i (polygon [])) ≡ Err k → partial_mesh d ps (defined_in s ws) ≡ Err k
    refusing k q = sym t.filled.rest ∙ steps-refused (defined_in s ws) i (polygon []) there (add_cell d ps) partial k q

    not-checked : (k : Refusal) → checked d ps (definition_at ws h.at) ≡ Err k → partial_mesh d ps (defined_in s ws) ≡ Err k
    unfolding ◌>>=◌
    not-checked k x = refusing k (rw (same-def, cell-checked, x))

    module _ (v : Vec3) (x : checked d ps (definition_at ws h.at) ≡ Ok v) where
      abbrev new : NewCell
      new = record { number = i; reference = v; head = h; first = p.first }

      ready : FillCellEntry ws (with_faces s p.faces) words floats new
      ready =
          let many : p.faces ≤ s.slots = omega (arith, t.filled.behind, room) in
          let step = steps-to ws p.at h c e in
          record {
            headed = headed ws p.at h c e;
            lent-words = lent-sized s words words p.faces t.addable.lent-words refl many;
            lent-floats = lent-floats-sized s floats floats p.faces t.addable.lent-floats refl many;
            chained = t.filled.chained;
            behind = t.filled.behind;
            room = room;
            below = t.cell;
            position = omega (arith, position, step.past, step.within, t.addable.words-few);
          }

      with-faces : add_cell d ps partial (get_or (defined_in s ws) i (polygon []))
          ≡ (add_faces d ps ws new (faces_in (with_faces s p.faces) words floats) >>= λ g.
          Ok (record { faces = g.faces; cells = partial_cells_in ws s words floats i ++ record { definition = definition_at ws h.at; faces = g.numbers; reference = v } ∷ [] }))
      unfolding ◌>>=◌
      with-faces = rw (same-def, cell-checked, x, so-many)

      module _ (words' : List ℕ) (floats' : List Float) where
        not-filled : (a : Refusable ℕ) (k : Refusal) → FillCellExit d ps ws new (with_faces s p.faces) words words' floats floats' a → a ≡ Err k
            → AddCellExit d ps ws s words' floats' i (Err k)
        unfolding ◌>>=◌
        not-filled a k (Ensures.FillCellExit.filled n q st) ea = absurd (let z : ◌≡◌ {A = ℕ} 0 1 = cc in omega arith)
        not-filled a k (Ensures.FillCellExit.refusing j q) ea = let z : j ≡ k = cc in Ensures.AddCellExit.refusing k (refusing k (with-faces ∙ rw (q, z)))

        filled_next : (n : ℕ) → add_faces d ps ws new (faces_in (with_faces s p.faces) words floats) ≡ Ok (cell_faces_in (with_faces s n) words' floats' p.first h.faces)
            → StoredCell (with_faces s p.faces) words words' floats floats' new n
            → CellsSoFar d ps ws (defined_in s ws) s words' floats' (i + 1) (record { at = c.at; first = p.first + h.faces; faces = n })
        unfolding ◌>>=◌
        filled_next n q st =
            let f = head-faces ws h (headed ws p.at h c e) in
            let more = drafts-next ws s words words' floats floats' new n p.faces t.filled.lists st in
            record {
              chained = st.chained;
              behind = st.behind;
              counted = counted;
              left = cell.rest;
              lists = lists-next ws s words words' floats floats' new n p.faces t.filled.lists st f.few f.all;
              rest =
                  rw more
                  (sym (steps_next (defined_in s ws) i (polygon []) there (add_cell d ps) partial _ (with-faces ∙ rw q))
                  ∙ t.filled.rest);
            }

        added : (a : Refusable ℕ) (n : ℕ) → FillCellExit d ps ws new (with_faces s p.faces) words words' floats floats' a → a ≡ Ok n
            → AddCellExit d ps ws s words' floats' i (Ok (record { at = c.at; first = p.first + h.faces; faces = n }))
        added a n (Ensures.FillCellExit.refusing j q) ea = absurd (let z : ◌≡◌ {A = ℕ} 0 1 = cc in omega arith)
        added a n (Ensures.FillCellExit.filled m q st) ea = let z : m ≡ n = cc in Ensures.AddCellExit.next _ (filled_next n (rw z at q) (rw z at st))

  pub cell-refused : (r : Refusable (NewCell × Cursor)) (k : Refusal) (words' : List ℕ) (floats' : List Float) → NewCellExit d ps ws i p r → r ≡ Err k → AddCellExit d ps ws s words' floats' i (Err k)
  cell-refused r k words' floats' (Ensures.NewCellExit.cell h c v e x) q = absurd (let z : ◌≡◌ {A = ℕ} 0 1 = cc in omega arith)
  cell-refused r k words' floats' (Ensures.NewCellExit.refusing h c j e x) q = let z : j ≡ k = cc in Ensures.AddCellExit.refusing k (rw z at (not-checked h c e j x))
  cell-refused r k words' floats' (Ensures.NewCellExit.wrong j e) q = absurd (never j e)

  pub cell-ready : (r : Refusable (NewCell × Cursor)) (y : NewCell) (c : Cursor) → NewCellExit d ps ws i p r → r ≡ Ok (y, c) → FillCellEntry ws (with_faces s p.faces) words floats y
  cell-ready r y c (Ensures.NewCellExit.refusing h c' j e x) q = absurd (let z : ◌≡◌ {A = ℕ} 0 1 = cc in omega arith)
  cell-ready r y c (Ensures.NewCellExit.wrong j e) q = absurd (never j e)
  cell-ready r y c (Ensures.NewCellExit.cell h c' v e x) q =
      let z : record { number = i; reference = v; head = h; first = p.first } ≡ y = (ok-pair q).0 in
      rw z at (ready h c' e v x)

  pub cell-not-filled : (r : Refusable (NewCell × Cursor)) (y : NewCell) (c : Cursor) (words' : List ℕ) (floats' : List Float) (a : Refusable ℕ) (k : Refusal) → NewCellExit d ps ws i p r → r ≡ Ok (y, c)
      → FillCellExit d ps ws y (with_faces s p.faces) words words' floats floats' a → a ≡ Err k → AddCellExit d ps ws s words' floats' i (Err k)
  cell-not-filled r y c words' floats' a k (Ensures.NewCellExit.refusing h c' j e x) q f ea = absurd (let z : ◌≡◌ {A = ℕ} 0 1 = cc in omega arith)
  cell-not-filled r y c words' floats' a k (Ensures.NewCellExit.wrong j e) q f ea = absurd (never j e)
  cell-not-filled r y c words' floats' a k (Ensures.NewCellExit.cell h c' v e x) q f ea =
      let z : record { number = i; reference = v; head = h; first = p.first } ≡ y = (ok-pair q).0 in
      not-filled h c' e v x words' floats' a k (rw (← z) at f) ea

  pub cell-next : (r : Refusable (NewCell × Cursor)) (y : NewCell) (c : Cursor) (words' : List ℕ) (floats' : List Float) (a : Refusable ℕ) (n : ℕ) → NewCellExit d ps ws i p r → r ≡ Ok (y, c)
      → FillCellExit d ps ws y (with_faces s p.faces) words words' floats floats' a → a ≡ Ok n
      → AddCellExit d ps ws s words' floats' i (Ok (record { at = c.at; first = y.first + y.head.faces; faces = n }))
  cell-next r y c words' floats' a n (Ensures.NewCellExit.refusing h c' j e x) q f ea = absurd (let z : ◌≡◌ {A = ℕ} 0 1 = cc in omega arith)
  cell-next r y c words' floats' a n (Ensures.NewCellExit.wrong j e) q f ea = absurd (never j e)
  cell-next r y c words' floats' a n (Ensures.NewCellExit.cell h c' v e x) q f ea =
      let z : record { number = i; reference = v; head = h; first = p.first } ≡ y = (ok-pair q).0 in
      let zc : c' ≡ c = (ok-pair q).1 in
      rw (← zc, ← z) (added h c' e v x words' floats' a n (rw (← z) at f) ea)

-- ---- `fill_cells`

-- the area is lent as it was
pub addable-kept : (case : List ℕ) (points : ℕ) (ws words₀ words : List ℕ) (floats₀ floats : List Float) (s : Sizes) → AddCellsEntry case points ws words₀ floats₀ s
    → length words ≡ length words₀ → length floats ≡ length floats₀ → AddCellsEntry case points ws words floats s
addable-kept case points ws words₀ words floats₀ floats s a lw lf =
    record {
      lent-words = lent-sized s words₀ words s.faces a.lent-words lw a.lent-words.few-faces;
      lent-floats = lent-floats-sized s floats₀ floats s.faces a.lent-floats lf a.lent-floats.few-faces;
      empty = a.empty;
      points-few = a.points-few;
      points-there = a.points-there;
      words-few = a.words-few;
      defs = a.defs;
      right = a.right;
      slots = a.slots;
    }

module _ (d : ℕ) (ps : List Vec3) (ws : List ℕ) (s : Sizes) (words : List ℕ) (floats : List Float) (i : ℕ) where
  pub added-refused : (r : Refusable Progress) (k : Refusal) → AddCellExit d ps ws s words floats i r → r ≡ Err k → partial_mesh d ps (defined_in s ws) ≡ Err k
  added-refused r k (Ensures.AddCellExit.next q g) e = absurd (let z : ◌≡◌ {A = ℕ} 0 1 = cc in omega arith)
  added-refused r k (Ensures.AddCellExit.refusing j g) e = let z : j ≡ k = cc in rw z at g

  pub added_next : (r : Refusable Progress) (q : Progress) → AddCellExit d ps ws s words floats i r → r ≡ Ok q → CellsSoFar d ps ws (defined_in s ws) s words floats (i + 1) q
  added_next r q (Ensures.AddCellExit.refusing j g) e = absurd (let z : ◌≡◌ {A = ℕ} 0 1 = cc in omega arith)
  added_next r q (Ensures.AddCellExit.next x g) e = let z : x ≡ q = cc in rw z at g

module _ (d : ℕ) (ps : List Vec3) (case : List ℕ) (points : ℕ) (ws words₀ : List ℕ) (floats₀ : List Float) (s : Sizes) (a : AddCellsEntry case points ws words₀ floats₀ s) where
  pub filled-start : Chained (with_faces s 0) words₀ → CellsSoFar d ps ws (defined_in s ws) s words₀ floats₀ 0 (record { at = 0; first = 0; faces = 0 })
  unfolding faces_counted partial_cells_in faces_in tab partial_mesh read
  filled-start ch =
      record {
        chained = ch;
        behind = omega arith;
        counted = sym (a.slots ∙ ap faces_counted (sym (ap read a.right)));
        left = rw (sub-zero s.cells) (defined case points ws words₀ floats₀ s a);
        lists =
            record {
              first = λ b. absurd (omega arith);
              next = λ j b. absurd (omega arith);
              last = λ j b. absurd (omega arith);
              none = λ e. refl;
              few = λ j b. absurd (omega arith);
              counts = λ j b. absurd (omega arith);
              unlinked = λ j b. absurd (omega arith);
            };
        rest = refl;
      }

  module _ (defs : List Definition) (e : definitions s.cells ws ≡ Ok defs) where
    same : defined_in s ws ≡ defs
    unfolding read
    same = ap read e

    pub drafts-refused : (words : List ℕ) (floats : List Float) (k : Refusal) → partial_mesh d ps (defined_in s ws) ≡ Err k → AddCellsExit d ps ws defs s words floats (Err k)
    drafts-refused words floats k q = Ensures.AddCellsExit.refusing (rw same at q)

    module _ (words : List ℕ) (floats : List Float) (i : ℕ) (p : Progress) (lw : length words ≡ length words₀) (g : CellsSoFar d ps ws (defined_in s ws) s words floats i p)
        (low : i ≤ s.cells) (end : s.cells ≤ i) where
      none_left : drop i (defined_in s ws) ≡ []
      none_left =
          drop_of_length-le (defined_in s ws) {i = i} (omega (arith, length-definitions s.cells ws (defined_in s ws) (defined case points ws words₀ floats₀ s a)))

      all-cells : i ≡ s.cells
      all-cells = omega arith

      all_slots : p.first ≡ s.slots
      unfolding fold
      all_slots = rw (none_left, fold) at g.counted

      vertex : (f : ℕ) → f < p.faces → get_or words (12 * f + 0) 0 ≤ 8
      unfolding mesh_words
      vertex f b =
          let few = g.chained.few in
          let e : get_or (mesh_words (with_faces s p.faces) words) (12 * f + 0) 0 ≡ get_or words (12 * f + 0) 0 = get_or-take (16 * s.slots + 8 * s.cells) words (12 * f + 0) 0 (omega arith) in
          rw (← e, read_count (mesh_words (with_faces s p.faces) words) f) (g.chained.short f b)

      pub drafts-done : AddCellsExit d ps ws defs s words floats (Ok p.faces)
      unfolding steps
      drafts-done =
          let w : Ok (record { faces = faces_in (with_faces s p.faces) words floats; cells = partial_cells_in ws s words floats i }) ≡ partial_mesh d ps (defined_in s ws) = rw (none_left, steps) at g.rest in
          Ensures.AddCellsExit.added (rw (same, all-cells) at (sym w))
          (record {
            table = refl;
            few = g.chained.few;
            vertices = vertex;
            cells = refl;
            lists = rw (all-cells, all_slots) at g.lists;
          })
