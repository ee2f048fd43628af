-- The neighbour lists, from one face to all cells. Assumes nothing.
use mathlib.Core.Path.{◌≡◌, refl, sym, ap, ◌∙◌}
use mathlib.Core.Bool.{Bool, true, false, cond}
use mathlib.Core.List.{List, [], ◌∷◌}
use mathlib.Core.Logic.{◌⊎◌, inl, inr, ◌≢◌, ⊎_elim}
use Prim.Native.Nat.{ℕ, zero, suc, ◌+◌, ◌-◌, ◌*◌, ◌<◌, ◌≤◌}
use native.Mathlib.Nat.{le_of_suc-le-suc, eq-or-lt_of_le, not-suc-le-zero}
use native.Mathlib.Numerals.{add-one}
use native.Mathlib.Omega.{arith}
use mir.Syntax.{w32}
use mir.Val.{Fits}
use borrow.Author.Tests.{eq-eqb, ne_eqb}
use lib.Dec.{eqb}
use lib.Ieee.{Float}
use lib.ListN.{length, get_or, set, take, drop, length-drop}
use lib.Seq.{get_or-set_same, get_or-set_other, get_or-take, get_or-drop}
use Rattle.std.specs.Prelude.{◌||◌, Some, None}
use Rattle.std.specs.List.{list_any}
use Rattle.std.proofs.lemmas.List.{same_lists, get_or_default, length-take}
use Rattle.arith.specs.Lists.{any_of, fold, add_new}
use Rattle.arith.specs.Records.{tab}
use Rattle.arith.proofs.ListLaws.{foldl-next}
use Rattle.arith.proofs.RecordLaws.{tab-same, tab-next, drop-end, lt-or-ge}
use Rattle.mesh_area.specs.declared.Sizes.{Sizes}
use Rattle.mesh_area.specs.Tables.{Face, Cell, face_at, cell_at}
use Rattle.mesh_area.specs.Layout.{list_at, found, face_in, cell_in, faces_in, cells_in, mesh_words, mesh_floats, words_end, LentWords}
use Rattle.mesh_area.proofs.LayoutLaws.{face-in, face-out, cell-in, length-cells_in, length-list_at, list_at-in}
use Rattle.mesh_neighbours.specs.Neighbours.{other_cell, beyond, add_found, add_neighbour, neighbours_of, linked_at, linked, first_in, count_in}
use Rattle.mesh_neighbours.specs.Ensures.{CellLists, OutsideList, FillNeighboursExit, BeyondExit, AddNewExit, AddBeyondExit, neighbours_in, ListAtExit, FillCellExit}
use Rattle.std.specs.declared.option.Option.{Option}

-- ---- is it listed

any-same : (p : ℕ → Bool) (l : List ℕ) → list_any p l ≡ any_of p l
unfolding any_of
any-same p [] = refl
any-same p (x ∷ l) = step (p x) (any-same p l)
  where
    step : (b : Bool) {x y : Bool} → x ≡ y → (b || x) ≡ elim b [ true ↦ true | false ↦ y ]
    step true e = refl
    step false e = e

-- the n words from a place on are the list there
words-listed : (w : List ℕ) (at n : ℕ) → at + n ≤ length w → take (at + n - at) (drop at w) ≡ list_at w at n
words-listed w at n room =
    let e : at + n - at ≡ n = omega arith in
    let there : length (take n (drop at w)) ≡ n = simp (length-take, length-drop) (omega arith) in
    rw e
    (same_lists (take n (drop at w)) (list_at w at n) (there ∙ sym (length-list_at w at n))
    (λ k d h.
    let b : k < n = rw there at h in
    get_or_default (take n (drop at w)) k d 0 h
    ∙ get_or-take n (drop at w) k 0 b
    ∙ get_or-drop at w k 0
    ∙ sym (get_or_default (list_at w at n) k d 0 (rw (length-list_at w at n) b) ∙ list_at-in w at n k b)))

pub any_listed : (w : List ℕ) (at n : ℕ) (p : ℕ → Bool) → at + n ≤ length w → list_any p (take (at + n - at) (drop at w)) ≡ any_of p (list_at w at n)
any_listed w at n p room = any-same p _ ∙ ap (any_of p) (words-listed w at n room)

-- ---- one more

pub same-list : (w w' : List ℕ) (at n : ℕ) → ((k : ℕ) → k < n → get_or w' (at + k) 0 ≡ get_or w (at + k) 0) → list_at w' at n ≡ list_at w at n
unfolding list_at
same-list w w' at n h = tab-same _ _ n h

pub added-was : (w : List ℕ) (at n d : ℕ) (t : Bool) → t ≡ any_of (eqb d) (list_at w at n) → t ≡ true → AddNewExit w w at n d n
unfolding add_new
added-was w at n d t et e = record { list = rw (sym et ∙ e); more = omega arith; grows = omega arith; kept = λ j h. refl }

pub added_new : (w : List ℕ) (at n d x : ℕ) (t : Bool) → t ≡ any_of (eqb d) (list_at w at n) → t ≡ false → x ≡ d → at + n < length w
    → AddNewExit w (set w (at + n) x) at n d (n + 1)
unfolding add_new list_at
added_new w at n d x t et e ex room =
    let w' = set w (at + n) x in
    let old : list_at w' at n ≡ list_at w at n = same-list w w' at n (λ k h. get_or-set_other w (at + n) (at + k) x 0 (omega arith)) in
    let one : get_or w' (at + n) 0 ≡ d = get_or-set_same w (at + n) x 0 room ∙ ex in
    record {
      list = rw (sym et ∙ e) (tab-next (λ k. get_or w' (at + k) 0) n ∙ rw (one, old));
      more = omega arith;
      grows = omega arith;
      kept = λ j q. get_or-set_other w (at + n) j x 0 (⊎_elim (λ a. omega arith) (λ b. omega arith) q);
    }

pub ruleset adding = (added-was, added_new)

-- ---- the cell beyond a face

-- a word of the mesh's part, and a list there
pub mesh-word : (s : Sizes) (w : List ℕ) (j : ℕ) → j < words_end s → get_or (mesh_words s w) j 0 ≡ get_or w j 0
unfolding mesh_words
mesh-word s w j h = get_or-take (words_end s) w j 0 h

pub mesh-list : (s : Sizes) (w : List ℕ) (at n : ℕ) → at + n ≤ words_end s → list_at (mesh_words s w) at n ≡ list_at w at n
mesh-list s w at n h = same-list w (mesh_words s w) at n (λ k l. mesh-word s w (at + k) (omega arith))

found-small : (x n : ℕ) → x < 4294967296 → Some n ≡ found x → n < 4294967296
unfolding found
found-small x n h e = by (eqb x 0) e
  where
    by : (b : Bool) → Some n ≡ cond b None (Some (x - 1)) → n < 4294967296
    by true e = let z : ◌≡◌ {A = ℕ} 0 1 = cc in absurd (omega arith)
    by false e = let z : n ≡ x - 1 = cc in omega arith

neighbour-small : (s : Sizes) (w : List ℕ) (f n : ℕ) → LentWords s w → ((j : ℕ) → Fits w32 (get_or w j 0)) → Some n ≡ (face_at (faces_in s w []) f).neighbour → n < 4294967296
unfolding face_in
neighbour-small s w f n lent fit e = by (lt-or-ge f s.faces)
  where
    by : (f < s.faces) ⊎ (s.faces ≤ f) → n < 4294967296
    by (inl h) =
        let b : get_or w (12 * f + 10) 0 < 4294967296 = omega (arith, fit (12 * f + 10)) in
        let i : 12 * f + 10 < words_end s = (let o = lent.few-faces in omega arith) in
        found-small (get_or (mesh_words s w) (12 * f + 10) 0) n (rw (mesh-word s w (12 * f + 10) i) b) (e ∙ ap (λ (g : Face). g.neighbour) (face-in s w [] f h))
    by (inr h) = let g = e ∙ ap (λ (g : Face). g.neighbour) (face-out s w [] f h) in let z : ◌≡◌ {A = ℕ} 0 1 = cc in absurd (omega arith)

module _ (s : Sizes) (w : List ℕ) (cell f : ℕ) (x : Option ℕ) (ex : (floats : List Float) → x ≡ (face_at (faces_in s w floats) f).neighbour) where
  pub beyond-none : x ≡ None → BeyondExit s w cell f None
  unfolding beyond other_cell
  beyond-none e = record { found = λ floats. rw (← ex floats, e); small = λ d q. let z : ◌≡◌ {A = ℕ} 0 1 = cc in absurd (omega arith) }

  module _ (n : ℕ) (e : x ≡ Some n) (o : ℕ) (eo : (floats : List Float) → o ≡ (face_at (faces_in s w floats) f).owner) where
    pub beyond-owner : LentWords s w → ((j : ℕ) → Fits w32 (get_or w j 0)) → o ≡ cell → BeyondExit s w cell f (Some n)
    unfolding beyond other_cell
    beyond-owner lent fit q =
        let b = neighbour-small s w f n lent fit (sym e ∙ ex []) in
        record { found = λ floats. rw (← ex floats, e, ← eo floats, eq-eqb o cell q); small = λ d r. let z : n ≡ d = cc in omega arith }

    pub beyond-other : o < 4294967296 → (o ≡ cell → ⊥) → BeyondExit s w cell f (Some o)
    unfolding beyond other_cell
    beyond-other b ne =
        record { found = λ floats. rw (← ex floats, e, ← eo floats, ne_eqb o cell ne); small = λ d r. let z : o ≡ d = cc in omega arith }

-- ---- a face's cell added

module _ (s : Sizes) (w : List ℕ) (cell f at n : ℕ) (x : Option ℕ) (b : BeyondExit s w cell f x) where
  pub crossed-none : x ≡ None → AddBeyondExit s w w cell f at n n
  unfolding add_neighbour add_found
  crossed-none e = record { list = λ floats. rw (← b.found floats, e); more = omega arith; grows = omega arith; kept = λ j h. refl }

  pub crossed-one : (w' : List ℕ) (d r : ℕ) → x ≡ Some d → AddNewExit w w' at n d r → AddBeyondExit s w w' cell f at n r
  unfolding add_neighbour add_found
  crossed-one w' d r e a = record { list = λ floats. rw (← b.found floats, e) a.list; more = a.more; grows = a.grows; kept = a.kept }

  pub crossed-small : (d : ℕ) → x ≡ Some d → d < 4294967296
  crossed-small d e = b.small d e

pub ruleset crossing = (crossed-none, crossed-one, crossed-small)

-- ---- the lists of two cells do not overlap

module _ (s : Sizes) (w : List ℕ) (laid : CellLists s w) where
  apart_by : (i d : ℕ) → i + 1 + d < s.cells → first_in s w i + count_in s w i ≤ first_in s w (i + 1 + d)
  apart_by i zero h = let e : i + 1 + 0 ≡ i + 1 = omega arith in rw e (laid.next i (omega arith))
  apart_by i (suc d) h =
      let e : i + 1 + suc d ≡ i + 1 + d + 1 = omega arith in
      let a = apart_by i d (omega arith) in
      let b = laid.next (i + 1 + d) (omega arith) in
      rw e (omega arith)

  pub apart : (i j : ℕ) → i < j → j < s.cells → first_in s w i + count_in s w i ≤ first_in s w j
  apart i j h l = let e : i + 1 + (j - (i + 1)) ≡ j = omega arith in rw e at (apart_by i (j - (i + 1)) (omega arith))

  pub list-end : (i : ℕ) → i < s.cells → first_in s w i + count_in s w i ≤ s.slots
  list-end i h = by (lt-or-ge (i + 1) s.cells)
    where
      by : (i + 1 < s.cells) ⊎ (s.cells ≤ i + 1) → first_in s w i + count_in s w i ≤ s.slots
      by (inl l) =
          let a = apart i (s.cells - 1) (omega arith) (omega arith) in
          let b = laid.last (s.cells - 1) (omega arith) in
          omega arith
      by (inr g) = laid.last i (omega arith)

-- ---- all of the mesh's part but the neighbour lists and their counts

pub record Same (s : Sizes) (w w' : List ℕ) : Type 0 where
  pub low : (j : ℕ) → j < 14 * s.slots → get_or w' j 0 ≡ get_or w j 0
  pub cells : (i k : ℕ) → i < s.cells → k < 3 → get_or w' (16 * s.slots + 8 * i + k) 0 ≡ get_or w (16 * s.slots + 8 * i + k) 0

module _ (s : Sizes) (w w' : List ℕ) (lent : LentWords s w) (laid : CellLists s w) (same : Same s w w') where
  pub same-laid : CellLists s w'
  same-laid =
      record {
        vertices = λ f h. rw (same.low (12 * f + 0) (let o = lent.few-faces in omega arith)) (laid.vertices f h);
        next = λ i h. rw (same.cells i 1 (omega arith) (omega arith), same.cells i 2 (omega arith) (omega arith), same.cells (i + 1) 1 h (omega arith)) (laid.next i h);
        last = λ i h. rw (same.cells i 1 (omega arith) (omega arith), same.cells i 2 (omega arith) (omega arith)) (laid.last i h);
      }

  -- one face's record
  same-face : (floats : List Float) (f : ℕ) → f < s.faces → face_in (mesh_words s w') (mesh_floats s floats) f ≡ face_in (mesh_words s w) (mesh_floats s floats) f
  unfolding face_in
  same-face floats f h =
      let few = lent.few-faces in
      let r : (k : ℕ) → k < 12 → get_or (mesh_words s w') (12 * f + k) 0 ≡ get_or (mesh_words s w) (12 * f + k) 0 =
      λ k l. mesh-word s w' (12 * f + k) (omega arith) ∙ same.low (12 * f + k) (omega arith) ∙ sym (mesh-word s w (12 * f + k) (omega arith)) in
      let c : get_or (mesh_words s w) (12 * f + 0) 0 ≤ 8 = rw (mesh-word s w (12 * f + 0) (omega arith)) (laid.vertices f h) in
      let v : list_at (mesh_words s w') (12 * f + 1) (get_or (mesh_words s w) (12 * f + 0) 0) ≡ list_at (mesh_words s w) (12 * f + 1) (get_or (mesh_words s w) (12 * f + 0) 0) =
      same-list (mesh_words s w) (mesh_words s w') (12 * f + 1) (get_or (mesh_words s w) (12 * f + 0) 0)
      (λ k l. let e : 12 * f + 1 + k ≡ 12 * f + (1 + k) = omega arith in rw e (r (1 + k) (omega arith))) in
      rw (r 0 (omega arith), r 9 (omega arith), r 10 (omega arith), v)

  pub same-faces : (floats : List Float) → faces_in s w' floats ≡ faces_in s w floats
  unfolding faces_in
  same-faces floats = tab-same _ _ s.faces (λ f h. same-face floats f h)

  module _ (i : ℕ) (h : i < s.cells) where
    -- the list of a cell's faces
    abbrev faces_of : List ℕ → List ℕ
    faces_of v = list_at (mesh_words s v) (13 * s.slots + get_or (mesh_words s v) (16 * s.slots + 8 * i + 1) 0) (get_or (mesh_words s v) (16 * s.slots + 8 * i + 2) 0)

    plain : (v : List ℕ) → CellLists s v → faces_of v ≡ list_at v (13 * s.slots + first_in s v i) (count_in s v i)
    plain v l =
        let e = list-end s v l i h in
        rw (mesh-word s v (16 * s.slots + 8 * i + 1) (omega arith), mesh-word s v (16 * s.slots + 8 * i + 2) (omega arith))
        (mesh-list s v (13 * s.slots + first_in s v i) (count_in s v i) (omega arith))

    pub same-list-of : faces_of w' ≡ faces_of w
    same-list-of =
        let e = list-end s w laid i h in
        plain w' same-laid
        ∙ rw (same.cells i 1 h (omega arith), same.cells i 2 h (omega arith))
        (same-list w w' (13 * s.slots + first_in s w i) (count_in s w i) (λ k l. same.low (13 * s.slots + first_in s w i + k) (omega arith)))
        ∙ sym (plain w laid)

    pub same-cell : (floats : List Float) → (cell_at (cells_in s w' floats) i).faces ≡ (cell_at (cells_in s w floats) i).faces
    unfolding cell_in
    same-cell floats =
        ap (λ (c : Cell). c.faces) (cell-in s w' floats i h) ∙ same-list-of ∙ sym (ap (λ (c : Cell). c.faces) (cell-in s w floats i h))

    pub same-neighbours_in : (floats : List Float) → neighbours_in s w' floats i ≡ neighbours_in s w floats i
    same-neighbours_in floats = rw (same-faces floats, same-cell floats)

-- ---- the list of one cell: what is left of its faces gives the rest of its neighbours

pub record Listing (s : Sizes) (w₀ w : List ℕ) (i at end n k : ℕ) : Type 0 where
  pub left : (floats : List Float) → fold (add_neighbour (faces_in s w₀ floats) i) (list_at w at n) (drop k (cell_at (cells_in s w₀ floats) i).faces) ≡ neighbours_in s w₀ floats i
  pub all : (floats : List Float) → end ≡ length (cell_at (cells_in s w₀ floats) i).faces
  pub at-end : end ≡ count_in s w₀ i
  pub few : n ≤ k
  pub from : 14 * s.slots ≤ at
  pub within : at + end ≤ 15 * s.slots
  pub kept : (j : ℕ) → (j < at) ⊎ (at + n ≤ j) → get_or w j 0 ≡ get_or w₀ j 0

-- how many faces a cell has
count_of : (s : Sizes) (w : List ℕ) (i : ℕ) → i < s.cells → (floats : List Float) → length (cell_at (cells_in s w floats) i).faces ≡ count_in s w i
unfolding cell_in
count_of s w i h floats =
    ap (λ (c : Cell). length c.faces) (cell-in s w floats i h)
    ∙ length-list_at (mesh_words s w) _ (get_or (mesh_words s w) (16 * s.slots + 8 * i + 2) 0)
    ∙ mesh-word s w (16 * s.slots + 8 * i + 2) (omega arith)

pub listing_start : (s : Sizes) (w : List ℕ) (i at end : ℕ) → CellLists s w → i < s.cells → at ≡ 14 * s.slots + first_in s w i
    → ((floats : List Float) → end ≡ length (cell_at (cells_in s w floats) i).faces) → Listing s w w i at end 0 0
unfolding list_at tab neighbours_of
listing_start s w i at end laid h ea ee =
    let c : end ≡ count_in s w i = ee [] ∙ count_of s w i h [] in
    let e = list-end s w laid i h in
    record {
      left = λ floats. refl;
      all = ee;
      at-end = c;
      few = omega arith;
      from = omega arith;
      within = omega arith;
      kept = λ j q. refl;
    }

module _ (s : Sizes) (w₀ w : List ℕ) (i at end n k : ℕ) (t : Listing s w₀ w i at end n k) where
  listing-same : n ≤ end → Same s w₀ w
  listing-same short =
      let a = t.from in
      let b = t.within in
      record { low = λ j h. t.kept j (inl (omega arith)); cells = λ c m h l. t.kept (16 * s.slots + 8 * c + m) (inr (omega arith)) }

  pub listing-room : k < end → LentWords s w → at + n < length w
  listing-room h lent = let a = t.within in let b = t.few in let l = lent.long in omega arith

  pub listing-turn : (w' : List ℕ) (f r : ℕ) → LentWords s w₀ → CellLists s w₀ → i < s.cells → k < end
      → ((floats : List Float) → f ≡ get_or (cell_at (cells_in s w floats) i).faces k 0) → AddBeyondExit s w w' i f at n r → Listing s w₀ w' i at end r (k + 1)
  listing-turn w' f r lent laid h more ef cr =
      record {
        left = left;
        all = t.all;
        at-end = t.at-end;
        few = let a = t.few in let b = cr.more in omega arith;
        from = t.from;
        within = t.within;
        kept = λ j q. cr.kept j (⊎_elim (λ l. inl (further j l)) (λ g. inr g) q) ∙ t.kept j (⊎_elim (λ l. inl l) (λ g. inr (behind j g)) q);
      }
    where
      same : Same s w₀ w
      same = listing-same (let a = t.few in omega arith)

      further : (j : ℕ) → j < at → j < at + n
      further j l = omega arith

      behind : (j : ℕ) → at + r ≤ j → at + n ≤ j
      behind j g = let a = cr.grows in omega arith

      left : (floats : List Float) → fold (add_neighbour (faces_in s w₀ floats) i) (list_at w' at r) (drop (k + 1) (cell_at (cells_in s w₀ floats) i).faces) ≡ neighbours_in s w₀ floats i
      left floats =
          let fl = (cell_at (cells_in s w₀ floats) i).faces in
          let e : f ≡ get_or fl k 0 = rw (same-cell s w₀ w lent laid same i h floats) at (ef floats) in
          let c : list_at w' at r ≡ add_neighbour (faces_in s w₀ floats) i (list_at w at n) (get_or fl k 0) =
          rw (same-faces s w₀ w lent laid same floats, e) at (cr.list floats) in
          let l : k < length fl = rw (← t.all floats) more in
          rw c (sym (foldl-next fl k 0 l (add_neighbour (faces_in s w₀ floats) i) (list_at w at n)) ∙ t.left floats)

  pub listing-done : k ≤ end → end ≤ k → ListAtExit s w₀ w i at n
  unfolding fold
  listing-done le ge =
      record {
        list = λ floats. (rw (drop-end (cell_at (cells_in s w₀ floats) i).faces k (rw (← t.all floats) ge)) at (t.left floats));
        few = let a = t.few in let b = t.at-end in omega arith;
        kept = t.kept;
      }

pub ruleset listings = (listing_start, listing-room, listing-turn, listing-done)

-- ---- the list with its count

pub cell-listed : (s : Sizes) (w w' : List ℕ) (i first n x : ℕ) → LentWords s w → CellLists s w → i < s.cells → first ≡ get_or w (16 * s.slots + 8 * i + 1) 0
    → ListAtExit s w w' i (14 * s.slots + first) n → x ≡ n → length w' ≡ length w → FillCellExit s w (set w' (16 * s.slots + 8 * i + 3) x) i
cell-listed s w w' i first n x lent laid h ef wr ex long =
    let e = list-end s w laid i h in
    let l = lent.long in
    let few = wr.few in
    let at = 16 * s.slots + 8 * i + 3 in
    let w'' = set w' at x in
    let c : get_or w'' at 0 ≡ n = get_or-set_same w' at x 0 (omega arith) ∙ ex in
    record {
      list = λ floats. rw (c, ← ef) (same-list w' w'' (14 * s.slots + first) n (λ k q. get_or-set_other w' at (14 * s.slots + first + k) x 0 (omega arith)) ∙ wr.list floats);
      few = rw c few;
      kept = λ j o. get_or-set_other w' at j x 0 o.count ∙ wr.kept j (rw (ef, ← c) o.list);
    }

pub count_small : (s : Sizes) (w w' : List ℕ) (i at n : ℕ) → LentWords s w → CellLists s w → i < s.cells → ListAtExit s w w' i at n → n < 4294967296
count_small s w w' i at n lent laid h wr = let e = list-end s w laid i h in let f = wr.few in let g = lent.few-slots in omega arith

pub ruleset counting = (cell-listed, count_small)

-- ---- the lists of all cells

pub record Filled (s : Sizes) (w₀ w : List ℕ) (i : ℕ) : Type 0 where
  pub lists : (c : ℕ) → c < i → (floats : List Float) → list_at w (14 * s.slots + first_in s w₀ c) (get_or w (16 * s.slots + 8 * c + 3) 0) ≡ neighbours_in s w₀ floats c
  pub few : (c : ℕ) → c < i → get_or w (16 * s.slots + 8 * c + 3) 0 ≤ count_in s w₀ c
  pub same : Same s w₀ w
  pub rest : (j : ℕ) → ((c : ℕ) → c < i → OutsideList s w₀ w c j) → get_or w j 0 ≡ get_or w₀ j 0

pub fill_start : (s : Sizes) (w : List ℕ) → Filled s w w 0
fill_start s w =
    record {
      lists = λ c h. absurd (not-suc-le-zero h);
      few = λ c h. absurd (not-suc-le-zero h);
      same = record { low = λ j h. refl; cells = λ c k h l. refl };
      rest = λ j o. refl;
    }

pub fill-laid : (s : Sizes) (w₀ w : List ℕ) (i : ℕ) → LentWords s w₀ → CellLists s w₀ → Filled s w₀ w i → CellLists s w
fill-laid s w₀ w i lent laid f = same-laid s w₀ w lent laid f.same

pub fill-turn : (s : Sizes) (w₀ w w' : List ℕ) (i : ℕ) → LentWords s w₀ → CellLists s w₀ → i < s.cells → Filled s w₀ w i → FillCellExit s w w' i → Filled s w₀ w' (i + 1)
fill-turn s w₀ w w' i lent laid h f l =
    record {
      lists = λ c b. lists c (eq-or-lt_of_le (le_of_suc-le-suc (rw (add-one i) at b)));
      few = λ c b. few c (eq-or-lt_of_le (le_of_suc-le-suc (rw (add-one i) at b)));
      same = record { low = λ j b. kept j (inl (omega arith)) (omega arith) ∙ f.same.low j b; cells = λ c k b q. kept (16 * s.slots + 8 * c + k) (inr (omega arith)) (omega arith) ∙ f.same.cells c k b q };
      rest = λ j o. at_rest j (o i (omega arith)) ∙ f.rest j (λ c b. let q = o c (omega arith) in record { list = rw (← counted c b) q.list; count = q.count });
    }
  where
    end : first_in s w₀ i + count_in s w₀ i ≤ s.slots
    end = list-end s w₀ laid i h

    at_rest : (j : ℕ) → OutsideList s w₀ w' i j → get_or w' j 0 ≡ get_or w j 0
    at_rest j o = l.kept j (record { list = rw (f.same.cells i 1 h (omega arith)) o.list; count = o.count })

    kept : (j : ℕ) → (j < 14 * s.slots + first_in s w₀ i) ⊎ (15 * s.slots ≤ j) → j ≢ 16 * s.slots + 8 * i + 3 → get_or w' j 0 ≡ get_or w j 0
    kept j q ne = at_rest j (record { list = by q; count = ne })
      where
        by : (j < 14 * s.slots + first_in s w₀ i) ⊎ (15 * s.slots ≤ j)
            → (j < 14 * s.slots + first_in s w₀ i) ⊎ (14 * s.slots + first_in s w₀ i + get_or w' (16 * s.slots + 8 * i + 3) 0 ≤ j)
        by (inl a) = inl a
        by (inr b) = let e = end in let n = l.few in let c = f.same.cells i 2 h (omega arith) in inr (omega arith)

    -- the count of an earlier cell
    counted : (c : ℕ) → c < i → get_or w' (16 * s.slots + 8 * c + 3) 0 ≡ get_or w (16 * s.slots + 8 * c + 3) 0
    counted c b = kept (16 * s.slots + 8 * c + 3) (inr (omega arith)) (omega arith)

    few : (c : ℕ) → (c ≡ i) ⊎ (c < i) → get_or w' (16 * s.slots + 8 * c + 3) 0 ≤ count_in s w₀ c
    few c (inl e) = rw (e, ← f.same.cells i 2 h (omega arith)) l.few
    few c (inr b) = rw (counted c b) (f.few c b)

    lists : (c : ℕ) → (c ≡ i) ⊎ (c < i) → (floats : List Float) → list_at w' (14 * s.slots + first_in s w₀ c) (get_or w' (16 * s.slots + 8 * c + 3) 0) ≡ neighbours_in s w₀ floats c
    lists c (inl e) floats =
        rw e (rw (f.same.cells i 1 h (omega arith)) at (l.list floats) ∙ same-neighbours_in s w₀ w lent laid f.same i h floats)
    lists c (inr b) floats =
        let a = apart s w₀ laid c i b h in
        let n = f.few c b in
        let e = end in
        rw (counted c b)
        (same-list w w' (14 * s.slots + first_in s w₀ c) (get_or w (16 * s.slots + 8 * c + 3) 0) (λ k q. kept (14 * s.slots + first_in s w₀ c + k) (inl (omega arith)) (omega arith))
        ∙ f.lists c b floats)

module _ (s : Sizes) (w₀ w : List ℕ) (lent : LentWords s w₀) (laid : CellLists s w₀) (f : Filled s w₀ w s.cells) where
  cell-linked : (floats : List Float) (i : ℕ) → i < s.cells
      → cell_in (mesh_words s w) (mesh_floats s floats) s.slots i ≡ linked_at (faces_in s w₀ floats) (cells_in s w₀ floats) i
  unfolding cell_in linked_at
  cell-linked floats i h =
      let e = list-end s w₀ laid i h in
      let n = f.few i h in
      let c₀ = cell-in s w₀ floats i h in
      let a : get_or (mesh_words s w) (16 * s.slots + 8 * i + 1) 0 ≡ first_in s w₀ i = mesh-word s w (16 * s.slots + 8 * i + 1) (omega arith) ∙ f.same.cells i 1 h (omega arith) in
      let b : get_or (mesh_words s w) (16 * s.slots + 8 * i + 3) 0 ≡ get_or w (16 * s.slots + 8 * i + 3) 0 = mesh-word s w (16 * s.slots + 8 * i + 3) (omega arith) in
      let fs = same-list-of s w₀ w lent laid f.same i h in
      let l : list_at (mesh_words s w) (14 * s.slots + get_or (mesh_words s w) (16 * s.slots + 8 * i + 1) 0) (get_or (mesh_words s w) (16 * s.slots + 8 * i + 3) 0) ≡ neighbours_in s w₀ floats i =
      rw (a, b) (mesh-list s w (14 * s.slots + first_in s w₀ i) (get_or w (16 * s.slots + 8 * i + 3) 0) (omega arith) ∙ f.lists i h floats) in
      rw (l, c₀) (rw fs)

  listed-cells : (floats : List Float) → cells_in s w floats ≡ tab (linked_at (faces_in s w₀ floats) (cells_in s w₀ floats)) s.cells
  unfolding cells_in
  listed-cells floats = tab-same _ _ s.cells (λ i h. cell-linked floats i h)

  all-linked : FillNeighboursExit s w₀ w
  unfolding linked
  all-linked = record { cells = cells; faces = same-faces s w₀ w lent laid f.same; rest = f.rest }
    where
      cells : (floats : List Float) → cells_in s w floats ≡ tab (linked_at (faces_in s w₀ floats) (cells_in s w₀ floats)) (length (cells_in s w₀ floats))
      cells floats = rw (length-cells_in s w₀ floats) (listed-cells floats)

pub fill_done : (s : Sizes) (w₀ w : List ℕ) (i : ℕ) → LentWords s w₀ → CellLists s w₀ → Filled s w₀ w i → i ≤ s.cells → s.cells ≤ i → FillNeighboursExit s w₀ w
fill_done s w₀ w i lent laid f le ge = let e : i ≡ s.cells = omega arith in all-linked s w₀ w lent laid (rw e at f)

pub ruleset filling = (fill_start, fill-laid, fill-turn, fill_done)
