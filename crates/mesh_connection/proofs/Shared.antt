-- The neighbour lists connect what the shared faces connect, where the faces and the cells' face lists agree. Assumes nothing.
use mathlib.Core.Path.{◌≡◌, refl, sym, ap, ◌∙◌}
use mathlib.Core.Bool.{Bool, true, false, cond, ◌&&◌, ◌||◌}
use mathlib.Core.List.{List, [], ◌∷◌, ◌++◌}
use mathlib.Core.Logic.{◌⊎◌, inl, inr}
use Prim.Native.Nat.{ℕ, ◌<◌, ◌≤◌}
use native.Mathlib.Decide.{ℕ_discrete}
use native.Mathlib.Omega.{arith}
use borrow.Author.Tests.{eq-eqb, ne_eqb, eqb-true}
use lib.Dec.{eqb}
use lib.Ieee.{Float}
use lib.ListN.{length, get_or-eq_default}
use Rattle.arith.specs.Lists.{any_of, fold, add_new}
use Rattle.arith.proofs.RecordLaws.{get_or-tab, length-tab, lt-or-ge}
use Rattle.mesh_area.specs.Tables.{Face, Cell, face_at, cell_at, no_face, no_cell}
use Rattle.mesh_area.specs.declared.Sizes.{Sizes}
use Rattle.mesh_area.specs.Layout.{faces_in, cells_in}
use Rattle.mesh_area.proofs.LayoutLaws.{length-cells_in}
use Rattle.mesh_neighbours.specs.Neighbours.{other_cell, beyond, add_found, add_neighbour, neighbours_of, linked_at, linked}
use Rattle.mesh_neighbours.specs.Ensures.{FillNeighboursExit}
use Rattle.mesh_connection.specs.Connection.{sides_are, joins, share, connected, are_neighbours, connected_cells}
use Rattle.mesh_connection.specs.Ensures.{EnsureConnectedExit}
use Rattle.mesh_connection.proofs.Counting.{clash, true-or, true-and, or_left, or_right, same_test}
use Rattle.mesh_connection.proofs.Rounds.{any_at, any_some, connected-same}
use Rattle.std.specs.Prelude.{Some, None}
use Rattle.std.specs.declared.option.Option.{Option}

-- ---- members of a list

abbrev pub In : ℕ → List ℕ → Type 0
In a l = any_of (eqb a) l ≡ true

module _ {A : Type 0} (p : A → Bool) where
  any-cons : (a : A) (l : List A) → any_of p (a ∷ l) ≡ p a || any_of p l
  unfolding any_of
  any-cons a l = by (p a)
    where
      by : (t : Bool) → elim t [ true ↦ true | false ↦ any_of p l ] ≡ t || any_of p l
      by true = refl
      by false = refl

  any_append : (l k : List A) → any_of p (l ++ k) ≡ any_of p l || any_of p k
  unfolding any_of
  any_append [] k = refl
  any_append (a ∷ l) k = any-cons a (l ++ k) ∙ rw (any_append l k, any-cons a l) (by (p a))
    where
      by : (t : Bool) → t || (any_of p l || any_of p k) ≡ (t || any_of p l) || any_of p k
      by true = refl
      by false = refl

in_head : (a : ℕ) (l : List ℕ) → In a (a ∷ l)
in_head a l = any-cons (eqb a) a l ∙ or_left (eqb a a) _ (eq-eqb a a refl)

in-cases : (a b : ℕ) (l : List ℕ) → In a (b ∷ l) → (a ≡ b) ⊎ In a l
in-cases a b l h = by (true-or _ _ (sym (any-cons (eqb a) b l) ∙ h))
  where
    by : (eqb a b ≡ true) ⊎ In a l → (a ≡ b) ⊎ In a l
    by (inl e) = inl (eqb-true a b e)
    by (inr i) = inr i

-- ---- what is added

add-keeps : (j n : ℕ) (l : List ℕ) → In j l → In j (add_new eqb l n)
unfolding add_new
add-keeps j n l h = by (any_of (eqb n) l)
  where
    by : (t : Bool) → In j (cond t l (l ++ n ∷ []))
    by true = h
    by false = any_append (eqb j) l (n ∷ []) ∙ or_left _ _ h

add-has : (n : ℕ) (l : List ℕ) → In n (add_new eqb l n)
unfolding add_new
add-has n l = by (any_of (eqb n) l) refl
  where
    by : (t : Bool) → any_of (eqb n) l ≡ t → In n (cond t l (l ++ n ∷ []))
    by true e = e
    by false e = any_append (eqb n) l (n ∷ []) ∙ or_right (any_of (eqb n) l) _ (in_head n [])

add-only : (j n : ℕ) (l : List ℕ) → In j (add_new eqb l n) → In j l ⊎ (j ≡ n)
unfolding add_new any_of
add-only j n l h = by (any_of (eqb n) l) h
  where
    last : (j ≡ n) ⊎ In j [] → In j l ⊎ (j ≡ n)
    last (inl e) = inr e
    last (inr i) = absurd (clash i)

    or : In j l ⊎ In j (n ∷ []) → In j l ⊎ (j ≡ n)
    or (inl i) = inl i
    or (inr i) = last (in-cases j n [] i)

    by : (t : Bool) → In j (cond t l (l ++ n ∷ [])) → In j l ⊎ (j ≡ n)
    by true h = inl h
    by false h = or (true-or _ _ (sym (any_append (eqb j) l (n ∷ [])) ∙ h))

-- ---- the neighbours of a cell are the cells beyond its faces

pub record Faced (fs : List Face) (i j : ℕ) (faces : List ℕ) : Type 0 where
  pub face : ℕ
  pub of : In face faces
  pub far : beyond i (face_at fs face) ≡ Some j

module _ (fs : List Face) (i j : ℕ) where
  found-keeps : (l : List ℕ) (x : Option ℕ) → In j l → In j (add_found l x)
  unfolding add_found
  found-keeps l None h = h
  found-keeps l (Some n) h = add-keeps j n l h

  found-only : (l : List ℕ) (x : Option ℕ) → In j (add_found l x) → In j l ⊎ (x ≡ Some j)
  unfolding add_found
  found-only l None h = inl h
  found-only l (Some n) h = by (add-only j n l h)
    where
      by : In j l ⊎ (j ≡ n) → In j l ⊎ (Some n ≡ Some j)
      by (inl q) = inl q
      by (inr e) = inr (rw e)

  fold-keeps : (l faces : List ℕ) → In j l → In j (fold (add_neighbour fs i) l faces)
  unfolding fold add_neighbour
  fold-keeps l [] h = h
  fold-keeps l (f ∷ faces) h = fold-keeps (add_found l (beyond i (face_at fs f))) faces (found-keeps l (beyond i (face_at fs f)) h)

  fold-has : (l faces : List ℕ) → Faced fs i j faces → In j (fold (add_neighbour fs i) l faces)
  unfolding fold add_neighbour add_found any_of
  fold-has l [] h = absurd (clash h.of)
  fold-has l (f ∷ faces) h = by (in-cases h.face f faces h.of) (fold-has (add_found l (beyond i (face_at fs f))) faces)
    where
      by : (h.face ≡ f) ⊎ In h.face faces → (Faced fs i j faces → In j (fold (add_neighbour fs i) (add_found l (beyond i (face_at fs f))) faces))
          → In j (fold (add_neighbour fs i) (add_found l (beyond i (face_at fs f))) faces)
      by (inl e) r = let q : beyond i (face_at fs f) ≡ Some j = rw e at h.far in fold-keeps _ faces (rw (q, add_found) (add-has j l))
      by (inr n) r = r (record { face = h.face; of = n; far = h.far })

  fold-only : (l faces : List ℕ) → In j (fold (add_neighbour fs i) l faces) → In j l ⊎ Faced fs i j faces
  unfolding fold add_neighbour
  fold-only l [] h = inl h
  fold-only l (f ∷ faces) h = by (fold-only (add_found l (beyond i (face_at fs f))) faces h)
    where
      first : In j l ⊎ (beyond i (face_at fs f) ≡ Some j) → In j l ⊎ Faced fs i j (f ∷ faces)
      first (inl q) = inl q
      first (inr e) = inr (record { face = f; of = in_head f faces; far = e })

      by : In j (add_found l (beyond i (face_at fs f))) ⊎ Faced fs i j faces → In j l ⊎ Faced fs i j (f ∷ faces)
      by (inl q) = first (found-only l (beyond i (face_at fs f)) q)
      by (inr d) = inr (record { face = d.face; of = any-cons (eqb d.face) f faces ∙ or_right (eqb d.face f) _ d.of; far = d.far })

-- ---- a face's two cells

pub record Sided (i j owner : ℕ) (x : Option ℕ) : Type 0 where
  pub other : ℕ
  pub is : x ≡ Some other
  pub ways : ((owner ≡ i) × (other ≡ j)) ⊎ ((owner ≡ j) × (other ≡ i))

sides-out : (i j owner : ℕ) (x : Option ℕ) → sides_are i j owner x ≡ true → Sided i j owner x
unfolding sides_are
sides-out i j owner None e = absurd (clash e)
sides-out i j owner (Some n) e = record { other = n; is = refl; ways = by (true-or _ _ e) }
  where
    by : (eqb owner i && eqb n j ≡ true) ⊎ (eqb owner j && eqb n i ≡ true) → ((owner ≡ i) × (n ≡ j)) ⊎ ((owner ≡ j) × (n ≡ i))
    by (inl q) = let t = true-and _ _ q in inl (eqb-true _ _ t.0, eqb-true _ _ t.1)
    by (inr q) = let t = true-and _ _ q in inr (eqb-true _ _ t.0, eqb-true _ _ t.1)

sides-in : (i j owner : ℕ) (x : Option ℕ) → Sided i j owner x → sides_are i j owner x ≡ true
unfolding sides_are
sides-in i j owner x d = rw (d.is, sides_are) (by d.ways)
  where
    by : ((owner ≡ i) × (d.other ≡ j)) ⊎ ((owner ≡ j) × (d.other ≡ i)) → (eqb owner i && eqb d.other j) || (eqb owner j && eqb d.other i) ≡ true
    by (inl w) = or_left (eqb owner i && eqb d.other j) _ (rw (eq-eqb owner i w.0, eq-eqb d.other j w.1))
    by (inr w) = or_right (eqb owner i && eqb d.other j) (eqb owner j && eqb d.other i) (rw (eq-eqb owner j w.0, eq-eqb d.other i w.1))

-- seen from i the other one is j
far-in : (i j owner : ℕ) (x : Option ℕ) → Sided i j owner x → other_cell i owner x ≡ Some j
unfolding other_cell
far-in i j owner x d = rw (d.is, other_cell) (by (ℕ_discrete owner i) d.ways)
  where
    by : Dec (owner ≡ i) → ((owner ≡ i) × (d.other ≡ j)) ⊎ ((owner ≡ j) × (d.other ≡ i)) → Some (cond (eqb owner i) d.other owner) ≡ Some j
    by (yes o) (inl w) = rw (eq-eqb owner i o) (ap Some w.1)
    by (yes o) (inr w) = rw (eq-eqb owner i o) (ap Some (w.1 ∙ sym o ∙ w.0))
    by (no ne) (inl w) = absurd (ne w.0)
    by (no ne) (inr w) = rw (ne_eqb owner i ne) (ap Some w.0)

far-out : (i j owner : ℕ) (x : Option ℕ) → other_cell i owner x ≡ Some j → ((n : ℕ) → x ≡ Some n → (owner ≡ i) ⊎ (n ≡ i)) → Sided i j owner x
unfolding other_cell
far-out i j owner None e side = let z : ◌≡◌ {A = ℕ} 0 1 = cc in absurd (omega arith)
far-out i j owner (Some n) e side = record { other = n; is = refl; ways = by (ℕ_discrete owner i) (side n refl) }
  where
    by : Dec (owner ≡ i) → (owner ≡ i) ⊎ (n ≡ i) → ((owner ≡ i) × (n ≡ j)) ⊎ ((owner ≡ j) × (n ≡ i))
    by (yes o) s = inl (o, (let q : Some n ≡ Some j = rw (eq-eqb owner i o) at e in cc))
    by (no ne) (inl o) = absurd (ne o)
    by (no ne) (inr q) = inr ((let z : Some owner ≡ Some j = rw (ne_eqb owner i ne) at e in cc), q)

-- ---- faces and cells that agree

pub record Agree (fs : List Face) (cs : List Cell) : Type 0 where
  -- a shared face of a cell has it on one side
  pub sides : (i f n : ℕ) → i < length cs → In f (cell_at cs i).faces → (face_at fs f).neighbour ≡ Some n → ((face_at fs f).owner ≡ i) ⊎ (n ≡ i)
  -- a shared face is a face of both its cells
  pub owned : (f n : ℕ) → f < length fs → (face_at fs f).neighbour ≡ Some n → In f (cell_at cs (face_at fs f).owner).faces
  pub met : (f n : ℕ) → f < length fs → (face_at fs f).neighbour ≡ Some n → In f (cell_at cs n).faces

-- a face that another cell lies beyond is one of the table
face-low : (fs : List Face) (f n : ℕ) → (face_at fs f).neighbour ≡ Some n → f < length fs
unfolding face_at
face-low fs f n e = by (lt-or-ge f (length fs))
  where
    by : (f < length fs) ⊎ (length fs ≤ f) → f < length fs
    by (inl l) = l
    by (inr g) =
        let q : None ≡ Some n = rw (get_or-eq_default fs no_face g) at e in
        let z : ◌≡◌ {A = ℕ} 0 1 = cc in absurd (omega arith)

module _ (fs : List Face) (cs : List Cell) (agree : Agree fs cs) (i j : ℕ) (h : i < length cs) where
  neighbours-share : Faced fs i j (cell_at cs i).faces → share fs i j ≡ true
  unfolding share joins beyond face_at
  neighbours-share d =
      let g = face_at fs d.face in
      let s = far-out i j g.owner g.neighbour d.far (λ n e. agree.sides i d.face n h d.of e) in
      any_at (joins i j) no_face fs d.face (face-low fs d.face s.other s.is) (sides-in i j g.owner g.neighbour s)

  share-neighbours : share fs i j ≡ true → Faced fs i j (cell_at cs i).faces
  unfolding share joins beyond face_at
  share-neighbours e =
      let p = any_some (joins i j) no_face fs e in
      let g = face_at fs p.at in
      let s = sides-out i j g.owner g.neighbour p.here in
      record { face = p.at; of = by p.at p.low s.other s.is s.ways; far = far-in i j g.owner g.neighbour s }
    where
      by : (f : ℕ) → f < length fs → (n : ℕ) → (face_at fs f).neighbour ≡ Some n → (((face_at fs f).owner ≡ i) × (n ≡ j)) ⊎ (((face_at fs f).owner ≡ j) × (n ≡ i)) → In f (cell_at cs i).faces
      by f l n en (inl w) = rw w.0 at (agree.owned f n l en)
      by f l n en (inr w) = rw w.1 at (agree.met f n l en)

  linked-list : (cell_at (linked fs cs) i).neighbours ≡ neighbours_of fs i (cell_at cs i).faces
  unfolding linked linked_at cell_at
  linked-list = ap (λ (c : Cell). c.neighbours) (get_or-tab (linked_at fs cs) (length cs) i no_cell h)

  same-touch : are_neighbours (linked fs cs) i j ≡ share fs i j
  unfolding are_neighbours neighbours_of any_of
  same-touch = rw linked-list (same_test _ _ (λ e. neighbours-share (only (fold-only fs i j [] (cell_at cs i).faces e))) (λ e. fold-has fs i j [] (cell_at cs i).faces (share-neighbours e)))
    where
      only : In j [] ⊎ Faced fs i j (cell_at cs i).faces → Faced fs i j (cell_at cs i).faces
      only (inl n) = absurd (clash n)
      only (inr d) = d

-- the neighbour lists connect the cells exactly where the shared faces do
pub linked-connected : (fs : List Face) (cs : List Cell) → Agree fs cs → connected_cells (linked fs cs) ≡ connected (length cs) fs
unfolding connected_cells connected linked
linked-connected fs cs agree =
    rw (length-tab (linked_at fs cs) (length cs)) (connected-same (are_neighbours (linked fs cs)) (share fs) (length cs) (λ i j hi hj. same-touch fs cs agree i j hi))

-- what a builder learns that fills the lists and then asks for connection
pub ensured : (s : Sizes) (w w' w'' : List ℕ) (r : Bool) (floats : List Float) → FillNeighboursExit s w w' → EnsureConnectedExit s w' w'' r → Agree (faces_in s w floats) (cells_in s w floats)
    → r ≡ connected s.cells (faces_in s w floats)
ensured s w w' w'' r floats l k agree =
    k.result floats
    ∙ ap connected_cells (l.cells floats)
    ∙ linked-connected (faces_in s w floats) (cells_in s w floats) agree
    ∙ ap (λ (n : ℕ). connected n (faces_in s w floats)) (length-cells_in s w floats)
