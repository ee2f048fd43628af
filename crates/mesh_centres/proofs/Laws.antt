-- The turns of the second pass. Assumes nothing.
use Prim.Native.Nat.{ℕ, ◌+◌, ◌-◌, ◌*◌, ◌≤◌, ◌<◌}
use native.Mathlib.Nat.{sub-zero}
use native.Mathlib.Omega.{arith}
use mathlib.Core.Path.{◌≡◌, refl, sym, ap, ◌∙◌}
use mathlib.Core.List.{List, [], ◌∷◌, ◌++◌, append-nil}
use lib.Ieee.{Float}
use lib.ListN.{length, get_or, take, drop, length-map, get_or-map, drop_of_length-le}
use lib.Seq.{take-take}
use Rattle.arith.specs.Records.{tab, puts}
use Rattle.arith.specs.declared.Vec3.{Vec3}
use Rattle.arith.proofs.ListLaws.{left_at}
use Rattle.arith.proofs.RecordLaws.{left-suc, length-tab, get_or-tab, tab-next, take-puts}
use Rattle.reading.specs.Result.{Refusable, ◌>>=◌, map_all}
use Rattle.reading.proofs.ResultLaws.{bound, map_all-next, map_all-refused}
use Rattle.case_definitions.specs.Faces.{Definition, faces_of}
use Rattle.case_definitions.specs.Definitions.{Taken, definition, definitions}
use Rattle.case_definitions.specs.Ensures.{read_of, definition_at, HeadAt, head_of, step_at}
use Rattle.case_definitions.specs.declared.Cursor.{Cursor}
use Rattle.case_definitions.specs.declared.Head.{Head}
use Rattle.case_definitions.proofs.RecordLaws.{StepsTo, steps-to, steps-wrong}
use Rattle.mesh_area.specs.declared.Sizes.{Sizes}
use Rattle.mesh_area.specs.Tables.{Cell}
use Rattle.mesh_area.specs.Layout.{vec_from, cells_in, LentFloats}
use Rattle.mesh_volumes.specs.declared.CellGeometry.{CellGeometry}
use Rattle.mesh_volumes.specs.Geometry.{cell_geometry, cell_of}
use Rattle.mesh_measure.specs.Ensures.{faces_at}
use Rattle.mesh_cells.specs.Cells.{PartialCell}
use Rattle.mesh_cells.specs.Partial.{partial_cell_in, partial_cells_in}
use Rattle.mesh_centres.specs.Finish.{finished, finished_as, definitions_of}
use Rattle.mesh_centres.specs.Ensures.{FinishCellsEntry, FinishCellsExit, cell_from, floats_of, geometry_at, FinishRecordExit, stored, FinishCellEntry, FinishCellExit, next}
use Rattle.mesh_centres.proofs.Going.{first_cells, Going}
use Rattle.mesh_centres.specs.Ensures as Ensures
use Rattle.mesh_centres.proofs.CellLaws.{later-kept, cells-kept, cell-finished}
use Rattle.std.specs.Prelude.{Some, None, Ok, Err}
use Rattle.std.specs.declared.option.Option.{Option}
use Rattle.refusal.specs.declared.Refusal.TheVariants.{NoVolume}
use Rattle.refusal.specs.declared.Refusal.{Refusal}

-- ---- the record of one cell

module _ (d : ℕ) (ps : List Vec3) (ws : List ℕ) (s : Sizes) (floats : List Float) (i : ℕ) (h : Head) (r : Option CellGeometry) (reference : Vec3) (at : ℕ)
    (place : at ≡ cell_from s i) (averaged : reference ≡ vec_from floats at) (measured : cell_of r ≡ cell_geometry d ps reference (faces_at ws h)) where
  same-geometry : cell_of r ≡ geometry_at d ps ws s floats i h.at
  unfolding geometry_at faces_at
  same-geometry = rw (← place, ← averaged) measured

  pub record-zero : r ≡ None → FinishRecordExit d ps ws s floats floats i h.at (Err NoVolume)
  unfolding cell_of
  record-zero e = Ensures.zero (sym same-geometry ∙ ap cell_of e) refl

  pub record-stored : (g : CellGeometry) (floats' : List Float) → r ≡ Some g → floats' ≡ puts floats at (floats_of g)
      → FinishRecordExit d ps ws s floats floats' i h.at (Ok tt)
  unfolding cell_of
  record-stored g floats' e put = stored g (sym same-geometry ∙ ap cell_of e) (rw place at put)

-- ---- one cell, at its cursor

module _ (ws : List ℕ) (c : Cursor) (t : Refusable (Head × Cursor)) (met : t ≡ step_at ws c.at) (h : Head) (q : Cursor) (e : t ≡ Ok (h, q)) where
  to : StepsTo ws c.at h q.at
  to = steps-to ws c.at h q (sym e ∙ met)

  head_at : h.at ≡ c.at
  unfolding head_of
  head_at = ap (λ (x : Head). x.at) to.head

  pub cell-headed : HeadAt ws h
  cell-headed = record { next = q; step = ap (step_at ws) head_at ∙ sym met ∙ e }

  -- what the record's answer says of the cell
  module _ (d : ℕ) (ps : List Vec3) (s : Sizes) (floats floats' : List Float) (i : ℕ) where
    pub cell-zero : {r : Refusable (Unit {0})} (x : Refusal) → FinishRecordExit d ps ws s floats floats' i h.at r → r ≡ Err x
        → FinishCellExit d ps ws s floats floats' i c.at (Err x)
    cell-zero x (Ensures.zero m k) g = let w : NoVolume ≡ x = cc in rw (← w) (Ensures.zero (rw head_at at m) k)
    cell-zero x (stored a m k) g = absurd (let z : ◌≡◌ {A = ℕ} 0 1 = cc in omega arith)

    pub cell-next : {r : Refusable (Unit {0})} → FinishRecordExit d ps ws s floats floats' i h.at r → r ≡ (Ok tt)
        → FinishCellExit d ps ws s floats floats' i c.at (Ok q)
    unfolding definition_at read_of
    cell-next (Ensures.zero m k) g = absurd (let z : ◌≡◌ {A = ℕ} 0 1 = cc in omega arith)
    cell-next (stored a m k) g = next q a (rw head_at at m) k (rw (to.read, read_of))

-- a right record is there
pub cell-wrong : (d : ℕ) (ps : List Vec3) (ws : List ℕ) (s : Sizes) (floats : List Float) (i : ℕ) (c : Cursor) (t : Refusable (Head × Cursor)) (w : Taken Definition) (k : Refusal)
    → t ≡ step_at ws c.at → definition (drop c.at ws) ≡ Ok w → t ≡ Err k → FinishCellExit d ps ws s floats floats i c.at (Err k)
cell-wrong d ps ws s floats i c t w k met right e =
    let n = steps-wrong ws c.at k (sym e ∙ met) in absurd (let z : ◌≡◌ {A = ℕ} 0 1 = cc in omega arith)

pub ruleset one_Cell = (record-zero, record-stored, cell-wrong, cell-headed, cell-zero, cell-next)

-- ---- the definition of cell i

record Here (ws : List ℕ) (defs : List Definition) (n i at : ℕ) (x : Definition) : Type 0 where
  taken : Taken Definition
  right : definition (drop at ws) ≡ Ok taken
  read : taken.read ≡ get_or defs i x
  rest : definitions (n - (i + 1)) taken.left ≡ Ok (drop (i + 1) defs)

here : (ws : List ℕ) (defs : List Definition) (n i at : ℕ) (x : Definition) → i < n → i < length defs → definitions (n - i) (drop at ws) ≡ Ok (drop i defs) → Here ws defs n i at x
unfolding definitions
here ws defs n i at x h m e =
    let e₁ = rw (left-suc n i h, left_at defs i x m) at e in
    let b₁ = bound _ _ _ e₁ in
    let b₂ = bound _ _ _ b₁.then in
    let w : b₁.value.read ∷ b₂.value ≡ get_or defs i x ∷ drop (i + 1) defs = cc b₂.then in
    let v : b₂.value ≡ drop (i + 1) defs = cc in
    record { taken = b₁.value; right = b₁.had; read = cc; rest = b₂.had ∙ ap Ok v }

-- ---- all cells

module _ (d : ℕ) (case : List ℕ) (points : ℕ) (ps : List Vec3) (ws words : List ℕ) (floats₀ : List Float) (s : Sizes) (able : FinishCellsEntry case points ws words floats₀ s) where
  abbrev cells : List PartialCell
  cells = partial_cells_in ws s words floats₀ s.cells

  length-cells : length cells ≡ s.cells
  unfolding partial_cells_in
  length-cells = length-tab _ s.cells

  pub go-start : Going d ps ws s words floats₀ floats₀ 0 0
  unfolding first_cells tab ◌>>=◌
  go-start =
      record {
        left = rw sub-zero (able.right ∙ ap Ok (sym able.defined));
        rest = by (map_all (finished d ps) cells);
        later = λ j h. refl;
        faces = refl;
      }
    where
      by : (r : Refusable (List Cell)) → (r >>= λ bs. Ok ([] ++ bs)) ≡ r
      by (Err n) = refl
      by (Ok bs) = refl

  module _ (floats : List Float) (i : ℕ) (c : Cursor) (go : Going d ps ws s words floats₀ floats i c.at) (more : i < s.cells) (long : length floats ≡ length floats₀) where
    draft : PartialCell
    draft = partial_cell_in ws s words floats₀ i

    draft-at : get_or cells i draft ≡ draft
    unfolding partial_cells_in draft
    draft-at = get_or-tab _ s.cells i draft more

    definition-here : Here ws (definitions_of cells) s.cells i c.at draft.definition
    definition-here =
        here ws (definitions_of cells) s.cells i c.at draft.definition more (rw (length-map cells _, length-cells) more) go.left

    lent : LentFloats s floats
    lent = let l = able.lent-floats in record { few-slots = l.few-slots; few-faces = l.few-faces; few-cells = l.few-cells; long = rw long l.long }

    pub go-ready : FinishCellEntry case points ws floats s i c
    go-ready = record { lent-floats = lent; points-there = able.points-there; cell = more; taken = definition-here.taken; right = definition-here.right }

    -- the definition is that of the partial cell
    same-definition : definition_at ws c.at ≡ draft.definition
    unfolding definition_at read_of
    same-definition =
        let h = definition-here in
        rw (h.right, read_of) (h.read ∙ get_or-map (λ (c : PartialCell). c.definition) cells i draft ∙ ap (λ (c : PartialCell). c.definition) draft-at)

    same-reference : vec_from floats (cell_from s i) ≡ draft.reference
    unfolding draft partial_cell_in vec_from
    same-reference =
        rw (go.later (cell_from s i) (omega arith), go.later (cell_from s i + 1) (omega arith), go.later (cell_from s i + 2) (omega arith))

    geometry-of : geometry_at d ps ws s floats i c.at ≡ cell_geometry d ps draft.reference (faces_of draft.definition)
    unfolding geometry_at
    geometry-of = rw (same-reference, same-definition)

    cell_at : CellGeometry → Cell
    cell_at g = record { faces = draft.faces; neighbours = []; centre = g.centre; volume = g.volume }

    finished-here : (g : CellGeometry) → geometry_at d ps ws s floats i c.at ≡ Ok g → finished d ps (get_or cells i draft) ≡ Ok (cell_at g)
    unfolding finished ◌>>=◌ cell_at
    finished-here g m = rw (draft-at, sym geometry-of ∙ m, ◌>>=◌)

    refused-here : geometry_at d ps ws s floats i c.at ≡ Err NoVolume → finished d ps (get_or cells i draft) ≡ Err NoVolume
    unfolding finished ◌>>=◌
    refused-here m = rw (draft-at, sym geometry-of ∙ m, ◌>>=◌)

    inside : i < length cells
    inside = rw length-cells more

    room : cell_from s i + 4 ≤ length floats
    room = let l = lent.long in omega arith

    module _ (g : CellGeometry) where
      abbrev after : List Float
      after = puts floats (cell_from s i) (floats_of g)

      one_more : first_cells s words after (i + 1) ≡ first_cells s words floats i ++ cell_at g ∷ []
      unfolding first_cells cell_at draft
      one_more =
          tab-next _ i
          ∙ rw (cells-kept s floats i g more room words, cell-finished s floats i g more room words ws floats₀ able.lists)

      faces-kept : take (12 * s.slots) after ≡ take (12 * s.slots) floats
      faces-kept =
          sym (take-take (12 * s.slots) (cell_from s i) after (omega arith))
          ∙ ap (take (12 * s.slots)) (take-puts floats (cell_from s i) (floats_of g))
          ∙ take-take (12 * s.slots) (cell_from s i) floats (omega arith)

    module _ (floats' : List Float) where
      pub go-next : {r : Refusable Cursor} (q : Cursor) → FinishCellExit d ps ws s floats floats' i c.at r → r ≡ Ok q
          → Going d ps ws s words floats₀ floats' (i + 1) q.at
      go-next q (Ensures.zero m k) e = absurd (let z : ◌≡◌ {A = ℕ} 0 1 = cc in omega arith)
      go-next q (next p g m put right) e =
          let w : p ≡ q = cc in
          let h = definition-here in
          let t : ◌≡◌ {A = Taken Definition} h.taken (record { read = definition_at ws c.at; left = drop p.at ws }) = cc h.right in
          let l : h.taken.left ≡ drop q.at ws = ap (λ (x : Taken Definition). x.left) t ∙ ap (λ (x : Cursor). drop x.at ws) w in
          rw put
          (record {
            left = sym (ap (definitions (s.cells - (i + 1))) l) ∙ h.rest;
            rest = ap (λ k. map_all (finished d ps) (drop (i + 1) cells) >>= λ bs. Ok (k ++ bs)) (one_more g)
                ∙ sym (map_all-next cells i draft inside (finished d ps) (first_cells s words floats i) (cell_at g) (finished-here g m))
                ∙ go.rest;
            later = λ j b. later-kept s floats i g more room j b ∙ go.later j (omega arith);
            faces = faces-kept g ∙ go.faces;
          })

      pub go-stop : {r : Refusable Cursor} {x : Refusal} → FinishCellExit d ps ws s floats floats' i c.at r → r ≡ Err x
          → FinishCellsExit d ps ws s words floats₀ floats' (Err x)
      unfolding finished_as
      go-stop {x = x} (next p g m put right) e = absurd (let z : ◌≡◌ {A = ℕ} 0 1 = cc in omega arith)
      go-stop {x = x} (Ensures.zero m k) e =
          let w : NoVolume ≡ x = cc in
          rw (k, ← w)
          (record {
            cells = sym go.rest ∙ map_all-refused cells i draft inside (finished d ps) (first_cells s words floats i) NoVolume (refused-here m);
            faces = go.faces;
            long = long;
            later = λ j b. go.later j (omega arith);
          })

  pub go-done : (floats : List Float) (i : ℕ) (c : Cursor) → Going d ps ws s words floats₀ floats i c.at → i ≤ s.cells → s.cells ≤ i → length floats ≡ length floats₀
      → FinishCellsExit d ps ws s words floats₀ floats (Ok tt)
  unfolding finished_as cells_in first_cells map_all ◌>>=◌
  go-done floats i c go le ge long =
      let e : i ≡ s.cells = omega arith in
      let none : drop i cells ≡ [] = drop_of_length-le cells {i = i} (rw length-cells ge) in
      record {
        cells = sym go.rest ∙ rw none (ap Ok (append-nil _ ∙ ap (tab _) e));
        faces = go.faces;
        long = long;
        later = λ j b. go.later j (omega arith);
      }

pub ruleset all-cells = (go-start, go-ready, go-next, go-stop, go-done)
