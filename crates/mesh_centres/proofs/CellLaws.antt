-- One cell of the area before and after it is finished. Assumes nothing.
use Prim.Native.Nat.{ℕ, zero, suc, ◌+◌, ◌-◌, ◌*◌, ◌≤◌, ◌<◌}
use native.Mathlib.Omega.{arith}
use mathlib.Core.Path.{◌≡◌, sym, ◌∙◌}
use mathlib.Core.List.{List, [], ◌∷◌}
use mathlib.Core.Logic.{◌⊎◌, inl, inr}
use lib.Dec.{lit≤}
use lib.Ieee.{Float, nan}
use lib.ListN.{length, get_or}
use lib.Seq.{get_or-take}
use Rattle.arith.specs.Records.{tab, puts}
use Rattle.arith.proofs.RecordLaws.{tab-same, lt-or-ge, get_or-puts-out, get_or-puts-at, get_or-puts-first}
use Rattle.mesh_area.specs.declared.Sizes.{Sizes}
use Rattle.mesh_area.specs.Layout.{list_at, vec_from, cell_in, mesh_words, mesh_floats, words_end, floats_end}
use Rattle.mesh_volumes.specs.declared.CellGeometry.{CellGeometry}
use Rattle.mesh_cells.specs.Partial.{cell_word, partial_cell_in}
use Rattle.mesh_cells.specs.Ensures.{FaceLists}
use Rattle.mesh_centres.specs.Ensures.{cell_from, floats_of}
use Rattle.mesh_centres.proofs.Going.{first_cells}

-- ---- the words of a cell, which stay

-- a word of the mesh's part, and a list there
mesh-word : (s : Sizes) (w : List ℕ) (j : ℕ) → j < words_end s → get_or (mesh_words s w) j 0 ≡ get_or w j 0
unfolding mesh_words
mesh-word s w j h = get_or-take (words_end s) w j 0 h

mesh-list : (s : Sizes) (w : List ℕ) (at n : ℕ) → at + n ≤ words_end s → list_at (mesh_words s w) at n ≡ list_at w at n
unfolding list_at
mesh-list s w at n h = tab-same _ _ n (λ k l. mesh-word s w (at + k) (omega arith))

empty-list : (w : List ℕ) (at n : ℕ) → n ≡ 0 → list_at w at n ≡ []
unfolding list_at tab
empty-list w at n e = rw e

module _ (ws : List ℕ) (s : Sizes) (words : List ℕ) (lists : FaceLists ws s words s.cells s.slots) where
  -- the lists follow each other, up to the end
  apart : (i d : ℕ) → i + 1 + d < s.cells → cell_word s words i 1 + cell_word s words i 2 ≤ cell_word s words (i + 1 + d) 1
  apart i zero h = let e : i + 1 + 0 ≡ i + 1 = omega arith in rw e (let n = lists.next i (omega arith) in omega arith)
  apart i (suc d) h =
      let e : i + 1 + suc d ≡ i + 1 + d + 1 = omega arith in
      let a = apart i d (omega arith) in
      let b = lists.next (i + 1 + d) (omega arith) in
      rw e (omega arith)

  list-end : (i : ℕ) → i < s.cells → cell_word s words i 1 + cell_word s words i 2 ≤ s.slots
  list-end i h = by (lt-or-ge (i + 1) s.cells)
    where
      by : (i + 1 < s.cells) ⊎ (s.cells ≤ i + 1) → cell_word s words i 1 + cell_word s words i 2 ≤ s.slots
      by (inl l) =
          let e : i + 1 + (s.cells - (i + 2)) ≡ s.cells - 1 = omega arith in
          let a = rw e at (apart i (s.cells - (i + 2)) (omega arith)) in
          let b = lists.last (s.cells - 1) (omega arith) in
          omega arith
      by (inr g) = let b = lists.last i (omega arith) in omega arith

  module _ (i : ℕ) (h : i < s.cells) where
    own-faces : list_at (mesh_words s words) (13 * s.slots + get_or (mesh_words s words) (16 * s.slots + 8 * i + 1) 0) (get_or (mesh_words s words) (16 * s.slots + 8 * i + 2) 0)
        ≡ list_at words (13 * s.slots + cell_word s words i 1) (cell_word s words i 2)
    own-faces =
        let e = list-end i h in
        rw (mesh-word s words (16 * s.slots + 8 * i + 1) (omega arith), mesh-word s words (16 * s.slots + 8 * i + 2) (omega arith))
        (mesh-list s words (13 * s.slots + cell_word s words i 1) (cell_word s words i 2) (omega arith))

    no-neighbours : (at : ℕ) → list_at (mesh_words s words) at (get_or (mesh_words s words) (16 * s.slots + 8 * i + 3) 0) ≡ []
    no-neighbours at = empty-list _ at _ (mesh-word s words (16 * s.slots + 8 * i + 3) (omega arith) ∙ lists.unlinked i h)

-- ---- the floats of a cell

mesh-float : (s : Sizes) (l : List Float) (j : ℕ) → j < floats_end s → get_or (mesh_floats s l) j nan ≡ get_or l j nan
unfolding mesh_floats
mesh-float s l j h = get_or-take (floats_end s) l j nan h

module _ (s : Sizes) (floats : List Float) (i : ℕ) (g : CellGeometry) (cell : i < s.cells) (room : cell_from s i + 4 ≤ length floats) where
  abbrev after : List Float
  after = puts floats (cell_from s i) (floats_of g)

  -- what is stored
  stored_at : (k : ℕ) → k < 4 → get_or (mesh_floats s after) (cell_from s i + k) nan ≡ get_or (floats_of g) k nan
  stored_at k h =
      mesh-float s after (cell_from s i + k) (omega arith) ∙ get_or-puts-at floats (cell_from s i) (floats_of g) k nan h room

  stored-first : get_or (mesh_floats s after) (cell_from s i) nan ≡ g.centre.x
  stored-first = mesh-float s after (cell_from s i) (omega arith) ∙ get_or-puts-first floats (cell_from s i) g.centre.x (g.centre.y ∷ g.centre.z ∷ g.volume ∷ []) nan room

  pub later-kept : (j : ℕ) → cell_from s (i + 1) ≤ j → get_or after j nan ≡ get_or floats j nan
  later-kept j h = get_or-puts-out floats (cell_from s i) (floats_of g) j nan (inr (omega arith))

  before-kept : (j : ℕ) → j < cell_from s i → get_or (mesh_floats s after) j nan ≡ get_or (mesh_floats s floats) j nan
  before-kept j h =
      mesh-float s after j (omega arith)
      ∙ get_or-puts-out floats (cell_from s i) (floats_of g) j nan (inl h)
      ∙ sym (mesh-float s floats j (omega arith))

  module _ (words : List ℕ) where
    cell-kept : (k : ℕ) → k < i → cell_in (mesh_words s words) (mesh_floats s after) s.slots k ≡ cell_in (mesh_words s words) (mesh_floats s floats) s.slots k
    unfolding cell_in vec_from
    cell-kept k h =
        let b = 12 * s.slots + 4 * k in
        rw (before-kept b (omega arith), before-kept (b + 1) (omega arith), before-kept (b + 2) (omega arith), before-kept (b + 3) (omega arith))

    pub cells-kept : first_cells s words after i ≡ first_cells s words floats i
    unfolding first_cells
    cells-kept = tab-same _ _ i cell-kept

    pub cell-finished : (ws : List ℕ) (floats₀ : List Float) → FaceLists ws s words s.cells s.slots
        → cell_in (mesh_words s words) (mesh_floats s after) s.slots i
        ≡ record { faces = (partial_cell_in ws s words floats₀ i).faces; neighbours = []; centre = g.centre; volume = g.volume }
    unfolding cell_in partial_cell_in vec_from
    cell-finished ws floats₀ lists =
        rw (own-faces ws s words lists i cell, no-neighbours ws s words lists i cell, stored-first, stored_at 1 (lit≤ tt), stored_at 2 (lit≤ tt), stored_at 3 (lit≤ tt))
